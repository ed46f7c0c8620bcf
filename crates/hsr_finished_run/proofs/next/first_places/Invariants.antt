use Rattle.hsr_finished_run.specs.Next.{AreFirst}
use Rattle.hsr_finished_run.proofs.next.first_places.Given as goal

abbrev pub invariant-loop-node : goal.invariant-loop-node
invariant-loop-node l = AreFirst l.node l.next.items
