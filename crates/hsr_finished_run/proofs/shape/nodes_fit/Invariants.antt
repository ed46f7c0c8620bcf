use Rattle.hsr_finished_run.specs.Shape.{NodesFit}
use Rattle.hsr_finished_run.proofs.shape.nodes_fit.Given as goal

abbrev pub invariant-loop-node : goal.invariant-loop-node
invariant-loop-node g l = NodesFit l.fn.ends l.kept l.node
