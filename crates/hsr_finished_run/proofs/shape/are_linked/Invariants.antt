use Rattle.hsr_finished_run.specs.Shape.{AreLinked}
use Rattle.hsr_finished_run.proofs.shape.are_linked.Given as goal

abbrev pub invariant-loop-i : goal.invariant-loop-i
invariant-loop-i l = AreLinked l.fn.ends l.fn.node l.entries l.i
