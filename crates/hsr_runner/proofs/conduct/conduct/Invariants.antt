use Rattle.std.proofs.Common.{drop}
use Rattle.hsr_runner.specs.Faults.{AllFit}
use Rattle.hsr_runner.proofs.conduct.conduct.Given as goal

-- where the steps that are left fit, all do
abbrev pub invariant-loop-step : goal.invariant-loop-step
invariant-loop-step g l = AllFit l.scenario.topology (drop l.step l.scenario.steps.items) → AllFit l.scenario.topology l.scenario.steps.items
