use Rattle.hsr_runner.specs.Endings.{IsEnding}
use Rattle.hsr_runner.proofs.threads.join_all.Given as goal

abbrev pub invariant-loop-handle : goal.invariant-loop-handle
invariant-loop-handle g l = IsEnding g.row.C g.G.Gate.may_shut l.first
