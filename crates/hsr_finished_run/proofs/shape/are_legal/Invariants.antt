use Rattle.hsr_finished_run.specs.Checked.{AreLegal}
use Rattle.hsr_finished_run.proofs.shape.are_legal.Given as goal

abbrev pub invariant-loop-node : goal.invariant-loop-node
invariant-loop-node g l = AreLegal g.row.C l.kept l.node
