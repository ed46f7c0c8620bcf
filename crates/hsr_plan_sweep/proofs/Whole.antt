-- A plan that is read whole, or up to a front that is too long, and what is told where nothing shows how far it is.
use Rattle.std.proofs.Common.{◌≡◌, ◌≢◌, ◌⊎◌, ℕ, Bool, ◌^◌, true, false, ◌∙◌, List, Option, Some, None, Result, Ok, Err, IfErr, IfOk, IfSome, IsOk, inl, inr, refl, sym, ap, subst}
use Rattle.std.specs.Io.KnownBytes.{Appends, Keeps}
use Rattle.hsr_plan_text.specs.Fallible.{FailsAt}
use Rattle.hsr_plan_text.specs.Plan.{Plan}
use Rattle.hsr_plan_text.specs.declared.fault.PlanFault.{PlanFault}
use Rattle.hsr_plan_text.specs.declared.fault.What.TheVariants.{NoMemory}
use Rattle.hsr_plan_schedule.specs.Meaning.{Meaning, Means, listed}
use Rattle.hsr_plan_scenario.proofs.Troubles.{plan_fault}
use Rattle.hsr_plan_scenario.specs.Ends.{TellsFault, TellsInput, TellsWhy}
use Rattle.hsr_text.specs.Whole.{IsWhole}
use Rattle.hsr_plan_scenario.specs.declared.planning.Ending.{Ending}
use Rattle.hsr_plan_scenario.specs.declared.planning.Ending.TheVariants.{Planned, Doubted, Refused, Failed, Unwritten}
use Rattle.hsr_plan_scenario.proofs.Whole.{longer, no_plan}
use Rattle.hsr_plan_sweep.specs.Refusals.{IsUnplayedAmong, IsUnsweepable, IsUnswept, IsUnsweptIf, cases_in, ground}
use Rattle.hsr_plan_sweep.specs.Swept.{IfHidden, IsPlayedPlan, IsSwept, SweepEnds, WritesSweep, ending_of}
use Rattle.hsr_plan_sweep.specs.Runs.{ArePlayed}
use Rattle.hsr_plan_sweep.specs.Variants.{bared_if, plan_in}
use Rattle.hsr_plan_sweep.specs.declared.asked.Asked.{Asked}
use Rattle.hsr_plan_sweep.specs.declared.playing.Played.{Played}

-- a text over 16 MiB is no plan
none_said : (said : Result Plan PlanFault) (fault : PlanFault) (plan : Plan) → said ≡ Err fault → said ≡ Ok plan → ⊥
none_said said fault plan e is = absurd cc

module _ (all front : List ℕ) (asked : Asked) (shown : Bool) (held holds told tells : Option (List ℕ)) where
  written_whole : (ending : Ending) → IsWhole (2 ^ 24) all front → WritesSweep front asked shown held holds told tells ending → WritesSweep all asked shown held holds told tells ending
  written_whole ending (inl same) (text, swept, written, hidden) = (text, subst (λ t. IsSwept t asked text ending) (sym same) swept, written, hidden)
  written_whole ending (inr long) (text, swept, written, hidden) = absurd (none_said (plan_in asked.without_events front) _ swept.1.0 (ap (bared_if asked.without_events) (no_plan front long.0)) swept.1.1)

  -- what is told of what was read is told of all
  swept_whole : (ending : Ending) → IsWhole (2 ^ 24) all front → SweepEnds front asked shown held holds told tells ending → SweepEnds all asked shown held holds told tells ending
  swept_whole Planned whole ends = written_whole Planned whole ends
  swept_whole Doubted whole ends = written_whole Doubted whole ends
  swept_whole Refused (inl same) (none, kept, hidden) = (subst (λ t. IsUnsweepable t asked) (sym same) none, kept, hidden)
  swept_whole Refused (inr long) (none, kept, hidden) =
      let P : Result Plan PlanFault → Type 0 = λ r. IsUnsweptIf r asked in
      (inr (subst P (sym (ap (bared_if asked.without_events) (no_plan all (longer front long.1.0 all long.0 long.1.1)))) tt), kept, hidden)
  swept_whole Failed whole ends = ends
  swept_whole Unwritten whole ends = ends

module _ (octets : List ℕ) (asked : Asked) (shown : Bool) (held holds : Option (List ℕ)) where
  -- what wasn't touched is kept
  kept_if_hidden : (told tells : Option (List ℕ)) → (shown ≡ false → tells ≡ told) → IfHidden shown (Keeps told tells)
  kept_if_hidden told tells same hidden = subst (Keeps told) (sym (same hidden)) (keeps told)
    where
      keeps : (held : Option (List ℕ)) → Keeps held held
      keeps None = tt
      keeps (Some held) = refl

  -- lines were written, and the end is one that tells of a doubt or of none
  written_so : (told tells : Option (List ℕ)) (text : List ℕ) (doubtful : Bool) → IsSwept octets asked text (ending_of doubtful) → (shown ≡ false → tells ≡ told)
      → Appends held holds text → SweepEnds octets asked shown held holds told tells (ending_of doubtful)
  written_so told tells text true swept same written = (text, swept, written, kept_if_hidden told tells same)
  written_so told tells text false swept same written = (text, swept, written, kept_if_hidden told tells same)

  -- and what was told since is all that was told
  pub why_if_hidden : (told middle tells : Option (List ℕ)) (why : Type 0) (ending : Ending) → (why → IsUnsweepable octets asked)
      → Keeps held holds → (shown ≡ false → middle ≡ told) → TellsWhy why middle tells ending → SweepEnds octets asked shown held holds told tells ending
  why_if_hidden told middle tells why Planned so kept same none = absurd none
  why_if_hidden told middle tells why Doubted so kept same none = absurd none
  why_if_hidden told middle tells why Refused so kept same (this, fault) = (so this, kept, λ hidden. subst (λ t. TellsFault t tells) (same hidden) fault)
  why_if_hidden told middle tells why Failed so kept same fault = (kept, λ hidden. subst (λ t. TellsInput t tells) (same hidden) fault)
  why_if_hidden told middle tells why Unwritten so kept same none = absurd none

  pub given_if_hidden : (told tells : Option (List ℕ)) (text : List ℕ) (given ending : Ending) → IsSwept octets asked text given → (shown ≡ false → tells ≡ told)
      → (ending ≡ Unwritten) ⊎ ((ending ≡ given) × Appends held holds text) → SweepEnds octets asked shown held holds told tells ending
  given_if_hidden told tells text given ending swept same (inl unwritten) = subst (SweepEnds octets asked shown held holds told tells) (sym unwritten) (kept_if_hidden told tells same)
  given_if_hidden told tells text given ending swept same (inr (is, written)) =
      let ends = swept.1.2.tells.ends in
      let S : Ending → Type 0 = λ e. IsSwept octets asked text e in
      let E : Ending → Type 0 = λ e. SweepEnds octets asked shown held holds told tells e in
      subst E (sym (is ∙ ends)) (written_so told tells text _ (subst S ends swept) same written)

-- the cases of what a plan means are those of the plan
pub played_so : (plays : List Played) (said : Result Plan PlanFault) (plan : Plan) (asked : Asked) (m : Meaning) → said ≡ Ok plan → Means plan m
    → ArePlayed said (ground asked.at m) (cases_in asked m) plays → IsPlayedPlan plan asked m plays
played_so plays said plan asked m is means played = record { means = means; played = subst (λ s. ArePlayed s (ground asked.at m) (cases_in asked m) plays) is played }

-- what is meant isn't swept, and so the plan isn't
pub unswept_meaning : {T Y Z : Type 0} (r : Result T (Result Y Z)) (said : Result Plan PlanFault) (plan : Plan) (asked : Asked) (m : Meaning) → said ≡ Ok plan → Means plan m
    → IfErr r (λ line. IsOk line → IsUnplayedAmong said (ground asked.at m) (cases_in asked m)) → IfErr r (λ line. IsOk line → IsUnswept plan asked)
unswept_meaning (Ok t) said plan asked m is means none = tt
unswept_meaning (Err line) said plan asked m is means none = λ told. inr (inr (m, means, subst (λ s. IsUnplayedAmong s (ground asked.at m) (cases_in asked m)) is (none told)))

-- the plan means nothing
pub unswept_fault : (fault : PlanFault) (plan : Plan) (asked : Asked) → fault.what ≢ NoMemory → FailsAt fault fault.what (listed plan) → IsUnswept plan asked
unswept_fault fault plan asked known fails = inr (inl (fault, plan_fault fault fault.what (listed plan) known fails))

-- octets whose plan isn't swept aren't
pub unswept_so : {X Y Z : Type 0} (r : Result X (Result Y Z)) (octets text : List ℕ) (plan : Plan) (asked : Asked) → plan_in asked.without_events text ≡ Ok plan → text ≡ octets
    → IfErr r (λ line. IsOk line → IsUnswept plan asked) → IfErr r (λ line. IsOk line → IsUnsweepable octets asked)
unswept_so (Ok x) octets text plan asked is same none = tt
unswept_so (Err line) octets text plan asked is same none = λ told.
    let P : Result Plan PlanFault → Type 0 = λ said. IsUnsweptIf said asked in
    inr (subst (λ t. IsUnsweptIf (plan_in asked.without_events t) asked) same (subst P (sym is) (none told)))

-- so it is with what a reader gives, where that is known
pub run_whole : {E : Type 0} (remaining : Option (List ℕ)) (front text : List ℕ) (asked : Asked) (shown : Bool) (held holds told tells : Option (List ℕ)) (r : Result Ending E)
    → IfSome remaining (λ all. IsWhole (2 ^ 24) all front) → text ≡ front → IfOk r (SweepEnds text asked shown held holds told tells)
    → IfOk r (λ ending. IfSome remaining (λ octets. SweepEnds octets asked shown held holds told tells ending))
run_whole None front text asked shown held holds told tells (Ok ending) whole same ends = tt
run_whole (Some all) front text asked shown held holds told tells (Ok ending) whole same ends =
    let P : List ℕ → Type 0 = λ t. SweepEnds t asked shown held holds told tells ending in
    swept_whole all front asked shown held holds told tells ending whole (subst P same ends)
run_whole None front text asked shown held holds told tells (Err e) whole same ends = tt
run_whole (Some all) front text asked shown held holds told tells (Err e) whole same ends = tt
