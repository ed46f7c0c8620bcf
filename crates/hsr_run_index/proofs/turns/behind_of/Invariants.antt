use Rattle.hsr_run_index.specs.Turns.{AreBehind}
use Rattle.hsr_run_index.proofs.turns.behind_of.Given as goal

abbrev pub invariant-loop-node : goal.invariant-loop-node
invariant-loop-node g l = AreBehind l.kept l.behind.items l.node
