-- A plan or a scenario that is read whole, or up to a front that is too long.
use Rattle.std.proofs.Common.{◌≡◌, ℕ, ◌^◌, ◌<◌, ◌++◌, false, nat_le, length, List, Option, Result, Ok, Err, inl, inr, refl, sym, subst, ap, arith}
use Rattle.std.proofs.lemmas.Bool.Decides.{nat_tests}
use Rattle.std.proofs.lemmas.List.{length-append}
use Rattle.hsr_scenario.specs.Meaning.{Meant, meaning}
use Rattle.hsr_scenario.specs.declared.fault.ScenarioFault.{ScenarioFault}
use Rattle.hsr_scenario.specs.declared.fault.Spot.TheVariants as scenario_spot
use Rattle.hsr_scenario.specs.declared.fault.What.TheVariants as scenario_what
use Rattle.hsr_plan_text.specs.Meaning.{plan_of}
use Rattle.hsr_plan_text.specs.Plan.{Plan}
use Rattle.hsr_plan_text.specs.declared.fault.PlanFault.{PlanFault}
use Rattle.hsr_plan_text.specs.declared.fault.Spot.TheVariants as spot
use Rattle.hsr_plan_text.specs.declared.fault.What.TheVariants as what
use Rattle.hsr_plan_scenario.specs.Ends.{Checks, Ends}
use Rattle.hsr_text.specs.Whole.{IsWhole}
use Rattle.hsr_plan_scenario.specs.Refusals.{HasNoneIf, IsLeftOpen, IsNoScenario, IsUnplanned, IsUnplayedIf}
use Rattle.hsr_plan_scenario.specs.Says.{IsScenario, SaysIf, SaysPlan}
use Rattle.hsr_plan_scenario.specs.declared.planning.Ending.{Ending}
use Rattle.hsr_plan_scenario.specs.declared.planning.Ending.TheVariants.{Planned, Doubted, Refused, Failed, Unwritten}

-- a text that begins with one over 16 MiB has over 16 MiB
pub longer : (front rest text : List ℕ) → 2 ^ 24 < length front → text ≡ front ++ rest → 2 ^ 24 < length text
longer front rest text h is = omega (arith, h, ap length is, length-append front rest)

-- ---- plans

-- a text over 16 MiB is no plan
pub no_plan : (text : List ℕ) → 2 ^ 24 < length text → plan_of text ≡ Err (record { spot = spot.Top; what = what.Text })
no_plan text h = let e : nat_le (length text) (2 ^ 24) ≡ false = grind (arith, nat_tests) in rw e refl

none_said : (capacity : ℕ) (said : Result Plan PlanFault) (fault : PlanFault) (text : List ℕ) → said ≡ Err fault → SaysIf capacity said text → ⊥
none_said capacity said fault text e says = let P : Result Plan PlanFault → Type 0 = λ r. SaysIf capacity r text in subst P e says

unplanned : (capacity : ℕ) (front rest all : List ℕ) → 2 ^ 24 < length front → all ≡ front ++ rest → IsUnplanned capacity all
unplanned capacity front rest all h is =
    let P : Result Plan PlanFault → Type 0 = HasNoneIf capacity in
    inr (subst P (sym (no_plan all (longer front rest all h is))) tt)

-- what is told of what was read is told of all
pub ends_whole : (capacity : ℕ) (all front : List ℕ) (held holds told tells : Option (List ℕ)) (ending : Ending) → IsWhole (2 ^ 24) all front
    → Ends capacity front held holds told tells ending → Ends capacity all held holds told tells ending
ends_whole capacity all front held holds told tells Planned (inl same) (text, says, written, kept) = (text, subst (λ t. SaysPlan capacity t text) (sym same) says, written, kept)
ends_whole capacity all front held holds told tells Planned (inr long) (text, says, written, kept) = absurd (none_said capacity (plan_of front) _ text (no_plan front long.0) says.1)
ends_whole capacity all front held holds told tells Refused (inl same) (none, kept, tells_why) = (subst (IsUnplanned capacity) (sym same) none, kept, tells_why)
ends_whole capacity all front held holds told tells Refused (inr long) (none, kept, tells_why) = (unplanned capacity front long.1.0 all long.0 long.1.1, kept, tells_why)
ends_whole capacity all front held holds told tells Doubted whole ends = ends
ends_whole capacity all front held holds told tells Failed whole ends = ends
ends_whole capacity all front held holds told tells Unwritten whole ends = ends

-- ---- scenarios

-- a text over 16 MiB is no scenario
pub no_scenario : (text : List ℕ) → 2 ^ 24 < length text → meaning text ≡ Err (record { spot = scenario_spot.Top; what = scenario_what.Text })
no_scenario text h = let e : nat_le (length text) (2 ^ 24) ≡ false = grind (arith, nat_tests) in rw e refl

none_meant : (said : Result Meant ScenarioFault) (fault : ScenarioFault) (m : Meant) → said ≡ Err fault → said ≡ Ok m → ⊥
none_meant said fault m e is = absurd cc

unplayed : (front rest all : List ℕ) → 2 ^ 24 < length front → all ≡ front ++ rest → IsNoScenario all
unplayed front rest all h is =
    let P : Result Meant ScenarioFault → Type 0 = IsUnplayedIf in
    inr (subst P (sym (no_scenario all (longer front rest all h is))) tt)

-- what is told of what was read is told of all
pub scenario_whole : (all front : List ℕ) (told tells : Option (List ℕ)) (ending : Ending) → IsWhole (2 ^ 24) all front
    → Checks front told tells ending → Checks all told tells ending
scenario_whole all front told tells Planned (inl same) (is, kept) = (subst IsScenario (sym same) is, kept)
scenario_whole all front told tells Planned (inr long) (is, kept) = absurd (none_meant (meaning front) _ is.1.0 (no_scenario front long.0) is.1.1)
scenario_whole all front told tells Refused (inl same) (inl (none, tells_why)) = inl (subst IsNoScenario (sym same) none, tells_why)
scenario_whole all front told tells Refused (inl same) (inr (cause, left, tells_open)) = inr (cause, subst (λ t. IsLeftOpen t cause) (sym same) left, tells_open)
scenario_whole all front told tells Refused (inr long) (inl (none, tells_why)) = inl (unplayed front long.1.0 all long.0 long.1.1, tells_why)
scenario_whole all front told tells Refused (inr long) (inr (cause, left, tells_open)) = absurd (none_meant (meaning front) _ left.0 (no_scenario front long.0) left.1)
scenario_whole all front told tells Doubted whole checks = checks
scenario_whole all front told tells Failed whole checks = checks
scenario_whole all front told tells Unwritten whole checks = elim checks [ ]
