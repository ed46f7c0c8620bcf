-- Why there is no scenario, by what its parts tell.
use Rattle.std.proofs.Common.{◌≡◌, ◌≢◌, ◌⊎◌, ℕ, ◌++◌, inl, inr, ⊎_elim, List, Option, Some, None, Result, Ok, Err, IfErr, OnOk, codes, refl, sym, subst, ap, ◌∙◌, append_assoc}
use Rattle.std.specs.Fmt.{decimal}
use Rattle.std.specs.Str.{IsUtf8}
use Rattle.hsr_scenario.specs.Fallible.{FailsAt as ScenarioFails}
use Rattle.hsr_scenario.specs.Meaning.{meaning}
use Rattle.hsr_scenario.specs.Names.{names_meant}
use Rattle.hsr_scenario.specs.declared.fault.ScenarioFault.{ScenarioFault}
use Rattle.hsr_scenario.specs.declared.fault.What as scenario
use Rattle.hsr_scenario.specs.declared.fault.What.TheVariants as read
use Rattle.hsr_plan_text.specs.Fallible.{FailsAt}
use Rattle.hsr_plan_text.specs.Plan.{Outline, Plan}
use Rattle.hsr_plan_text.specs.declared.fault.PlanFault.{PlanFault}
use Rattle.hsr_plan_text.specs.declared.fault.What.{What}
use Rattle.hsr_plan_text.specs.declared.fault.What.TheVariants.{Text, Missing, Unknown, WrongKind, BadName, BadValue, Refused, NoMemory}
use Rattle.hsr_plan_schedule.specs.Meaning.{Meaning, listed}
use Rattle.hsr_plan_scenario.specs.Refusals.{HasNoScenario, HasNoneIf, IfDiffers, IsKnown, IsMisread, IsTroubleIn, IsTroubleOf, IsUnmoved, IsUntold, MeansNothing, unread}
use Rattle.hsr_plan_hops.specs.Refusing.{IsImmovable}
use Rattle.hsr_plan_scenario.specs.Runs.{IsUnrunOf}
use Rattle.hsr_plan_scenario.specs.Says.{IsTitled, Tells, names_meant_by, scenario_meant}
use Rattle.hsr_plan_scenario.specs.Spelled.{front_text, links_text, nodes_text, order_lines, room_text, scenario_text, summary_text, title_text}
use Rattle.hsr_plan_scenario.specs.declared.checking.Trouble.{Trouble}
use Rattle.hsr_plan_scenario.specs.declared.checking.Trouble.TheVariants.{Plan as Faulty, TooLong, Endless, Differs}
use Rattle.hsr_plan_scenario.proofs.Whole.{no_scenario}

-- ---- faults

-- a fault that isn't refused room is what is said
pub plan_fault : {A : Type 0} (fault : PlanFault) (what : What) (said : Result A PlanFault) → what ≢ NoMemory → FailsAt fault what said → said ≡ Err fault
plan_fault fault Text said known is = is
plan_fault fault (Missing key) said known is = is
plan_fault fault (Unknown word) said known is = is
plan_fault fault (WrongKind key) said known is = is
plan_fault fault (BadName key word) said known is = is
plan_fault fault (BadValue key) said known is = is
plan_fault fault (Refused refusal) said known is = is
plan_fault fault NoMemory said known is = absurd (known refl)

pub scenario_fault : {A : Type 0} (fault : ScenarioFault) (what : scenario.What) (said : Result A ScenarioFault) → what ≢ read.NoMemory → ScenarioFails fault what said → said ≡ Err fault
scenario_fault fault read.Text said known is = is
scenario_fault fault (read.Missing key) said known is = is
scenario_fault fault read.Unknown said known is = is
scenario_fault fault (read.WrongKind key) said known is = is
scenario_fault fault (read.BadValue key) said known is = is
scenario_fault fault read.NameTwice said known is = is
scenario_fault fault read.NoSuchName said known is = is
scenario_fault fault (read.Topology why) said known is = is
scenario_fault fault read.NoMemory said known is = absurd (known refl)

-- what isn't read says nothing that was meant
pub unread_so : {A : Type 0} (fault : ScenarioFault) (what : scenario.What) (said : Result A ScenarioFault) (x : A) → ScenarioFails fault what said → IfDiffers (said ≢ Ok x) (unread what)
unread_so fault read.Text said x is = λ e. absurd cc
unread_so fault (read.Missing key) said x is = λ e. absurd cc
unread_so fault read.Unknown said x is = λ e. absurd cc
unread_so fault (read.WrongKind key) said x is = λ e. absurd cc
unread_so fault (read.BadValue key) said x is = λ e. absurd cc
unread_so fault read.NameTwice said x is = λ e. absurd cc
unread_so fault read.NoSuchName said x is = λ e. absurd cc
unread_so fault (read.Topology why) said x is = λ e. absurd cc
unread_so fault read.NoMemory said x is = refl

pub differs_weaker : (P Q : Type 0) (trouble : Trouble) → (P → Q) → IfDiffers P trouble → IfDiffers Q trouble
differs_weaker P Q Differs so h = so h
differs_weaker P Q (Faulty fault) so h = h
differs_weaker P Q (TooLong octets) so h = h
differs_weaker P Q (Endless steps) so h = h

pub differs_untold : (outline : Outline) (m : Meaning) (trouble : Trouble) → IfDiffers (IsMisread outline m) trouble → IsUntold outline m trouble
differs_untold outline m Differs h = h
differs_untold outline m (Faulty fault) h = h
differs_untold outline m (TooLong octets) h = absurd cc
differs_untold outline m (Endless steps) h = h

-- ---- texts

joined : (a b c d e f g h i j : List ℕ) → ((((((((a ++ b) ++ c) ++ d) ++ e) ++ f) ++ g) ++ h) ++ i) ++ j ≡ a ++ (b ++ (c ++ (d ++ (e ++ (f ++ (g ++ (h ++ (i ++ j))))))))
joined a b c d e f g h i j = simp append_assoc

titled_by : (title : Option (List ℕ)) (outline : Outline) (m : Meaning) → outline.title ≡ title → IsTitled title (scenario_text outline m)
unfolding scenario_text front_text
titled_by None outline m is = tt
titled_by (Some title) outline m is = (
  _,
  ap (λ t. ((((((((title_text t ++ summary_text outline.moves m) ++ codes "unit = \"us\"\ncapacity = ") ++ decimal m.capacity) ++ room_text outline.capacity m.at_once) ++ nodes_text m.nodes)
      ++ links_text m.nodes m.topology.links) ++ codes "step = [\n") ++ order_lines m.nodes m.streams m.sends m.orders) ++ codes "]\n") is
      ∙ joined (codes "# " ++ title ++ codes "\n") (summary_text outline.moves m) (codes "unit = \"us\"\ncapacity = ") (decimal m.capacity) (room_text outline.capacity m.at_once) (nodes_text m.nodes)
      (links_text m.nodes m.topology.links) (codes "step = [\n") (order_lines m.nodes m.streams m.sends m.orders) (codes "]\n"),
)

-- a scenario's text begins with the plan's title
pub titled : (outline : Outline) (m : Meaning) → IsTitled outline.title (scenario_text outline m)
titled outline m = titled_by outline.title outline m refl

-- one over 16 MiB isn't read
misread : (outline : Outline) (m : Meaning) (trouble : Trouble) → IsKnown trouble → IsUntold outline m trouble → IsMisread outline m
misread outline m (TooLong octets) known long = unread_long
  where
    unread_long : IsMisread outline m
    unread_long tells =
        let means = tells.means in
        let none = no_scenario (scenario_text outline m) long in
        absurd cc
misread outline m Differs known h = h
misread outline m (Faulty fault) known h = let same : fault.what ≡ NoMemory = cc in absurd (known same)
misread outline m (Endless steps) known h = absurd cc

-- ---- plans

-- a plan that isn't moved means nothing, or can't be moved
pub unmoved_why : (capacity : ℕ) (plan : Plan) (trouble : Trouble) → IsKnown trouble → IsUnmoved capacity plan trouble → MeansNothing plan ⊎ IsImmovable capacity plan
unmoved_why capacity plan (Faulty fault) known is = inl (fault, plan_fault fault fault.what (listed plan) known is)
unmoved_why capacity plan (Endless limit) known is = inr (record { transfer = is.transfer; at_transfer = is.at_transfer; told = is.told; means = is.means; why = inl is.unmoved.1 })
unmoved_why capacity plan Differs known is = inr (record { transfer = is.transfer; at_transfer = is.at_transfer; told = is.told; means = is.means; why = inr is.unmoved })
unmoved_why capacity plan (TooLong octets) known none = absurd none

unmoved_so : (capacity : ℕ) (plan : Plan) (trouble : Trouble) → IsKnown trouble → IsUnmoved capacity plan trouble → HasNoScenario capacity plan
unmoved_so capacity plan trouble known is = ⊎_elim (λ nothing. inl nothing) (λ immovable. inr (inl immovable)) (unmoved_why capacity plan trouble known is)

-- a trouble that isn't refused room says that there is no scenario
pub none_so : (capacity : ℕ) (said : Result Plan PlanFault) (trouble : Trouble) → IsKnown trouble → IsTroubleIn capacity said trouble → HasNoneIf capacity said
none_so capacity (Err fault) trouble known is = tt
none_so capacity (Ok plan) trouble known (inl unmoved) = unmoved_so capacity plan trouble known unmoved
none_so capacity (Ok plan) trouble known (inr (m, means, untold)) = inr (inr (m, means, misread plan.outline m trouble known untold))

-- ---- one by one

-- the first fault of a text is its trouble
pub read_so : (capacity : ℕ) (said : Result Plan PlanFault) (fault : PlanFault) (what : What) → fault.what ≡ what → FailsAt fault what said → IsTroubleIn capacity said (Faulty fault)
read_so capacity (Err first) fault what e is = subst (λ w. FailsAt {Y = Plan} fault w (Err first)) (sym e) is
read_so capacity (Ok plan) fault NoMemory e is = let P : What → Type 0 = λ w. FailsAt fault w (listed plan) in inl (subst P (sym e) tt)
read_so capacity (Ok plan) fault Text e is = absurd cc
read_so capacity (Ok plan) fault (Missing key) e is = absurd cc
read_so capacity (Ok plan) fault (Unknown word) e is = absurd cc
read_so capacity (Ok plan) fault (WrongKind key) e is = absurd cc
read_so capacity (Ok plan) fault (BadName key word) e is = absurd cc
read_so capacity (Ok plan) fault (BadValue key) e is = absurd cc
read_so capacity (Ok plan) fault (Refused refusal) e is = absurd cc

pub trouble_so : {X : Type 0} (capacity : ℕ) (said : Result Plan PlanFault) (plan : Plan) (r : Result X Trouble) → said ≡ Ok plan → IfErr r (IsTroubleOf capacity plan) →
    IfErr r (IsTroubleIn capacity said)
trouble_so capacity said plan (Ok x) e is = tt
trouble_so capacity said plan (Err trouble) e is = let P : Result Plan PlanFault → Type 0 = λ r. IsTroubleIn capacity r trouble in subst P (sym e) is

-- ---- a text that is checked

pub tells : {E : Type 0} (outline : Outline) (m : Meaning) (text words : List ℕ) (r : Result (Unit {0}) E) → words ≡ text → IsUtf8 text → text ≡ scenario_text outline m →
    meaning words ≡ Ok (scenario_meant m) → OnOk r (names_meant words ≡ Ok (names_meant_by m)) → OnOk r (Tells outline m text)
tells outline m text words (Ok done) same is spelled means named = record {
  is_text = is;
  means = ap meaning (sym same) ∙ means;
  named = ap names_meant (sym same) ∙ named;
  titled = let P : List ℕ → Type 0 = IsTitled outline.title in subst P (sym spelled) (titled outline m);
}
tells outline m text words (Err e) same is spelled means named = tt

-- so it has no run
pub unrun_so : (capacity : ℕ) (plan : Plan) (trouble : Trouble) → IsKnown trouble → IsUnmoved capacity plan trouble → IsUnrunOf capacity plan
unrun_so capacity plan trouble known is = ⊎_elim (λ nothing. inl nothing) (λ immovable. inr (inl immovable)) (unmoved_why capacity plan trouble known is)
