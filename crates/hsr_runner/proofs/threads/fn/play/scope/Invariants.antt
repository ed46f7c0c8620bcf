use Rattle.std.proofs.Common.{IfSome}
use Rattle.hsr_scenario.specs.Meaning.{scenario_view}
use Rattle.hsr_runner.specs.Endings.{IsConducted}
use Rattle.hsr_runner.proofs.threads.fn.play.scope.Given as goal

abbrev pub invariant-loop-role : goal.invariant-loop-role
invariant-loop-role g l = IfSome l.unstarted (λ c. IsConducted g.row.C g.G.Gate.may_shut (scenario_view l.scenario) c)
