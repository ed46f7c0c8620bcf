-- What a run in threads tells of the scenario.
use Rattle.std.proofs.Common.{ℕ, ◌≡◌, Bool, true, false, Option, None, Some, Result, Ok, Err, MatchOption, position, refl, sym, subst}
use Rattle.hsr_runner.specs.Faults.{IsRunFault, is_fine_step}
use Rattle.hsr_runner.specs.Plan.{is_fine}
use Rattle.hsr_runner.specs.declared.fault.RunFault.{RunFault}
use Rattle.hsr_runner.specs.declared.fault.RunFault.TheVariants as run
use Rattle.hsr_scenario.specs.Meaning.{Meant}
use Rattle.hsr_world_steps.specs.declared.step.WorldFault.TheVariants as world
use Rattle.hsr_commands.specs.Reading.{Said}
use Rattle.hsr_commands.specs.ThreadsRun.{IsUnrun, run_fault}

-- why there is no run of a scenario in which no step moves or judges one copy
orderly_unrun : (capacity : ℕ) (said : Said) (meant : Meant) (fault : RunFault) → said ≡ Ok meant → position is_fine meant.steps ≡ None → IsRunFault capacity meant fault
    → is_fine_step fault ≡ false → ¬ (fault ≡ run.GateShut) → IsUnrun capacity said (run_fault fault)
orderly_unrun capacity said meant (run.FineStep k) means none why fine never = cc
orderly_unrun capacity said meant (run.Step k world.NoSuchNode) means none why fine never = (meant, means, none, why)
orderly_unrun capacity said meant (run.Step k world.NoSuchLink) means none why fine never = (meant, means, none, why)
orderly_unrun capacity said meant (run.Step k world.NoSuchPort) means none why fine never = (meant, means, none, why)
orderly_unrun capacity said meant (run.Step k world.Busy) means none why fine never = (meant, means, none, why)
orderly_unrun capacity said meant (run.Step k world.Nothing) means none why fine never = (meant, means, none, why)
orderly_unrun capacity said meant (run.Step k world.TooLong) means none why fine never = (meant, means, none, why)
orderly_unrun capacity said meant (run.Step k (world.Node f)) means none why fine never = (meant, means, none, why)
orderly_unrun capacity said meant (run.Step k world.NoMemory) means none why fine never = tt
orderly_unrun capacity said meant run.GateShut means none why fine never = absurd (never refl)
orderly_unrun capacity said meant run.Thread means none why fine never = (meant, means, none, why)
orderly_unrun capacity said meant (run.Check d) means none why fine never = (meant, means, none, why)
orderly_unrun capacity said meant run.NoMemory means none why fine never = tt

-- why there is no run, by the first such step and the answer
pub unrun : {A : Type 0} (capacity : ℕ) (said : Said) (meant : Meant) (first : Option ℕ) (answer : Result A RunFault) (fault : RunFault) (may_shut : Bool) → answer ≡ Err fault → may_shut ≡ false
    → said ≡ Ok meant → position is_fine meant.steps ≡ first → MatchOption first (is_fine_step fault ≡ false) (λ k. answer ≡ Err (run.FineStep k)) → IsRunFault capacity meant fault
    → (answer ≡ Err run.GateShut → may_shut ≡ true) → IsUnrun capacity said (run_fault fault)
unrun capacity said meant None answer fault may_shut is never means at fine why shut =
    orderly_unrun capacity said meant fault means at why fine (λ same. let opens : may_shut ≡ true = shut cc in cc)
unrun capacity said meant (Some k) answer fault may_shut is never means at fine why shut =
    let same : fault ≡ run.FineStep k = cc in subst (λ f. IsUnrun capacity said (run_fault f)) (sym same) (meant, means, at)
