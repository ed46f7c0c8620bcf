-- What is said of a scenario's text and of its run.
use Rattle.std.proofs.Common.{◌≡◌, ℕ, ◌<◌, ◌^◌, length, List, Bool, true, false, Ok, Err, refl, sym, ap, subst, ◌∙◌, if◌then◌else◌, ⊎_elim, arith}
use Rattle.std.specs.Prelude.{nat_le}
use Rattle.std.proofs.lemmas.Bool.Decides.{nat_tests}
use Rattle.std.proofs.lemmas.List.{length-append}
use Rattle.std.specs.Str.{IsUtf8, is_utf8}
use Rattle.std.proofs.lemmas.Bool.{cases_Bool, cond-false}
use Rattle.std.proofs.lemmas.Str.{IsUtf8-from_is_utf8, is_utf8-from_IsUtf8}
use Rattle.hsr_scenario.specs.Meaning.{Meant, document_if, meaning}
use Rattle.hsr_text.specs.Whole.{IsWhole}
use Rattle.hsr_scenario.specs.Fallible.{FailsAt}
use Rattle.hsr_scenario.specs.declared.fault.ScenarioFault.{ScenarioFault}
use Rattle.hsr_scenario.specs.declared.fault.Spot.TheVariants as spot
use Rattle.hsr_scenario.specs.declared.fault.What.{What}
use Rattle.hsr_scenario.specs.declared.fault.What.TheVariants as what
use Rattle.hsr_world_laws.specs.World.{World}
use Rattle.hsr_world_steps.specs.declared.step.DrainFault.{DrainFault}
use Rattle.hsr_world_steps.specs.declared.step.DrainFault.TheVariants as drain
use Rattle.hsr_world_steps.specs.declared.step.WorldFault.TheVariants as world
use Rattle.hsr_ring.specs.Playing.{Halts}
use Rattle.hsr_commands.specs.Fault.{step_fault}
use Rattle.hsr_commands.specs.Naming.{names_in}
use Rattle.hsr_commands.specs.Reading.{IsNoScenario, Said, scenario_of, text_fault}
use Rattle.hsr_scenario.specs.Names.{named_if, names_meant}
use Rattle.hsr_commands.specs.ScenarioRun.{IsUnplayed, first_of}
use Rattle.std.specs.Prelude.{IfOk, Option, Some, Result}
use Rattle.hsr_run_laws.specs.Run.{Run}
use Rattle.hsr_timeline.specs.Fronts.{lists_of}
use Rattle.hsr_naming.specs.declared.names.Names.{Names}
use Rattle.hsr_naming.specs.declared.naming.Naming.{Naming}
use Rattle.hsr_naming.specs.declared.naming.Naming.TheVariants as naming
use Rattle.hsr_scenario.specs.Names.{NamesMeant, names_view}
use Rattle.hsr_scenario.specs.declared.naming.Names.{Names as ScenarioNames}
use Rattle.hsr_commands.specs.declared.fault.Fault.{Fault}
use Rattle.hsr_commands.specs.Naming.{IsCalled, IsNaming, IsNodeNaming, IsReadAs, Named}

pub no_text : (octets : List ℕ) → ¬ IsUtf8 octets → scenario_of octets ≡ Err (record { spot = spot.Top; what = what.Text })
no_text octets h = ⊎_elim (λ yes. absurd (h (IsUtf8-from_is_utf8 octets yes))) (λ no. ap (λ (b : Bool). if b then meaning octets else Err (record { spot = spot.Top; what = what.Text })) no) (cases_Bool (is_utf8 octets))

pub a_text : (octets text : List ℕ) → text ≡ octets → IsUtf8 octets → scenario_of octets ≡ meaning text
a_text octets text same h =
    ap (λ (b : Bool). if b then meaning octets else Err (record { spot = spot.Top; what = what.Text })) (is_utf8-from_IsUtf8 octets h) ∙ ap meaning (sym same)

pub unread : (said : Said) (fault : ScenarioFault) (w : What) (given : Said) → said ≡ given → FailsAt fault w given → IsNoScenario said (text_fault fault w)
unread said fault what.NoMemory given is h = tt
unread said fault what.Text given is h = is ∙ h
unread said fault (what.Missing k) given is h = is ∙ h
unread said fault what.Unknown given is h = is ∙ h
unread said fault (what.WrongKind k) given is h = is ∙ h
unread said fault (what.BadValue k) given is h = is ∙ h
unread said fault what.NameTwice given is h = is ∙ h
unread said fault what.NoSuchName given is h = is ∙ h
unread said fault (what.Topology f) given is h = is ∙ h

pub unplayed : (capacity : ℕ) (said : Said) (meant : Meant) (after : World) (n : ℕ) (fault : DrainFault) → said ≡ Ok meant
    → Halts capacity meant.steps n (first_of meant) after fault → IsUnplayed capacity said (step_fault n fault)
unplayed capacity said meant after n drain.Unsettled means h = (meant, means, after, h)
unplayed capacity said meant after n (drain.World world.NoMemory) means h = tt
unplayed capacity said meant after n (drain.World world.NoSuchNode) means h = (meant, means, after, h)
unplayed capacity said meant after n (drain.World world.NoSuchLink) means h = (meant, means, after, h)
unplayed capacity said meant after n (drain.World world.NoSuchPort) means h = (meant, means, after, h)
unplayed capacity said meant after n (drain.World world.Busy) means h = (meant, means, after, h)
unplayed capacity said meant after n (drain.World world.Nothing) means h = (meant, means, after, h)
unplayed capacity said meant after n (drain.World world.TooLong) means h = (meant, means, after, h)
unplayed capacity said meant after n (drain.World (world.Node f)) means h = (meant, means, after, h)

-- ---- a text of which a front was read, since it is too long

too_long : (octets : List ℕ) → 2 ^ 24 < length octets → scenario_of octets ≡ Err (record { spot = spot.Top; what = what.Text })
too_long octets h = by_test (is_utf8 octets)
  where
    by_test : (b : Bool) → (if b then meaning octets else Err (record { spot = spot.Top; what = what.Text })) ≡ Err (record { spot = spot.Top; what = what.Text })
    by_test true =
        let long : nat_le (length octets) (2 ^ 24) ≡ false = grind (arith, nat_tests, h) in
        ap document_if (cond-false (nat_le (length octets) (2 ^ 24)) _ _ long)
    by_test false = refl

pub as_read : (all read : List ℕ) → IsWhole (2 ^ 24) all read → scenario_of read ≡ scenario_of all
as_read all read whole = ⊎_elim (λ same. ap scenario_of (sym same)) (λ front.
    let longer : 2 ^ 24 < length all = subst (λ (xs : List ℕ). 2 ^ 24 < length xs) (sym front.1.1) (grind (arith, length-append, front.0)) in
    too_long read front.0 ∙ sym (too_long all longer)) whole

-- so too of its names

names_too_long : (octets : List ℕ) → 2 ^ 24 < length octets → names_in octets ≡ Err (record { spot = spot.Top; what = what.Text })
names_too_long octets h = by_test (is_utf8 octets)
  where
    by_test : (b : Bool) → (if b then names_meant octets else Err (record { spot = spot.Top; what = what.Text })) ≡ Err (record { spot = spot.Top; what = what.Text })
    by_test true =
        let long : nat_le (length octets) (2 ^ 24) ≡ false = grind (arith, nat_tests, h) in
        ap named_if (cond-false (nat_le (length octets) (2 ^ 24)) _ _ long)
    by_test false = refl

pub names_as_read : (all read : List ℕ) → IsWhole (2 ^ 24) all read → names_in read ≡ names_in all
names_as_read all read whole = ⊎_elim (λ same. ap names_in (sym same)) (λ front.
    let longer : 2 ^ 24 < length all = subst (λ (xs : List ℕ). 2 ^ 24 < length xs) (sym front.1.1) (grind (arith, length-append, front.0)) in
    names_too_long read front.0 ∙ sym (names_too_long all longer)) whole

pub no_names : (octets : List ℕ) → ¬ IsUtf8 octets → names_in octets ≡ Err (record { spot = spot.Top; what = what.Text })
no_names octets h =
    ⊎_elim (λ yes. absurd (h (IsUtf8-from_is_utf8 octets yes)))
    (λ no. ap (λ (b : Bool). if b then names_meant octets else Err (record { spot = spot.Top; what = what.Text })) no) (cases_Bool (is_utf8 octets))

pub names_of_text : (octets text : List ℕ) → text ≡ octets → IsUtf8 octets → names_in octets ≡ names_meant text
names_of_text octets text same h =
    ap (λ (b : Bool). if b then names_meant octets else Err (record { spot = spot.Top; what = what.Text })) (is_utf8-from_IsUtf8 octets h) ∙ ap names_meant (sym same)

-- a fault that isn't one of memory is what the definition says
pub told_fault : {Y : Type 0} (fault : ScenarioFault) (w : What) (said : Result Y ScenarioFault) → (w ≡ what.NoMemory → ⊥) → FailsAt fault w said → said ≡ Err fault
told_fault fault what.NoMemory said other h = absurd (other refl)
told_fault fault what.Text said other h = h
told_fault fault (what.Missing k) said other h = h
told_fault fault what.Unknown said other h = h
told_fault fault (what.WrongKind k) said other h = h
told_fault fault (what.BadValue k) said other h = h
told_fault fault what.NameTwice said other h = h
told_fault fault what.NoSuchName said other h = h
told_fault fault (what.Topology f) said other h = h

-- names that were read name the run, and its nodes

pub naming_called : (names : Bool) (named : Named) (o : Option ScenarioNames) (got : ScenarioNames) (run : Run) (r : Result Naming Fault) → names ≡ true → o ≡ Some got → IsReadAs named o
    → IfOk r (IsCalled (names_view got) run) → IfOk r (IsNaming names named run)
naming_called names named o got run (Err f) asked same read c = tt
naming_called names (Err e) o got run (Ok n) asked same read c = absurd (subst (λ (x : Option ScenarioNames). IsReadAs (Err e) x) same read)
naming_called names (Ok meant) o got run (Ok n) asked same read c =
    let is : names_view got ≡ meant = subst (λ (x : Option ScenarioNames). IsReadAs (Ok meant) x) same read in
    subst (λ (b : Bool). IsNaming b (Ok meant) run n) (sym asked) (subst (λ (m : NamesMeant). IsCalled m run n) is c)

pub nodes_named : (names : Bool) (named : Named) (o : Option ScenarioNames) (got : ScenarioNames) (all : Names) → names ≡ true → o ≡ Some got → IsReadAs named o → all.nodes ≡ got.names
    → IsNodeNaming names named (naming.Names all)
nodes_named names (Err e) o got all asked same read nodes = absurd (subst (λ (x : Option ScenarioNames). IsReadAs (Err e) x) same read)
nodes_named names (Ok meant) o got all asked same read nodes =
    let is : names_view got ≡ meant = subst (λ (x : Option ScenarioNames). IsReadAs (Ok meant) x) same read in
    subst (λ (b : Bool). IsNodeNaming b (Ok meant) (naming.Names all)) (sym asked)
    (all, ap (λ v. lists_of v.items) nodes ∙ ap (λ (m : NamesMeant). m.names) is, refl)
