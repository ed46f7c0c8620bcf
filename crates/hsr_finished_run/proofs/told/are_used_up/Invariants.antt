use Rattle.hsr_finished_run.specs.Reached.{AreUsedUp}
use Rattle.hsr_finished_run.proofs.told.are_used_up.Given as goal

abbrev pub invariant-loop-node : goal.invariant-loop-node
invariant-loop-node g l = AreUsedUp l.kept 0 l.fn.next l.node
