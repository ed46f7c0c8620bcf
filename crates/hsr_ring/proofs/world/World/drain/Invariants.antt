use Rattle.hsr_ring.proofs.Stopped.{GoesOn}
use Rattle.hsr_ring.proofs.world.World.drain.Given as goal

abbrev pub invariant-loop-done : goal.invariant-loop-done
invariant-loop-done g l = GoesOn g.row.C l.done l.self l.fn.self
