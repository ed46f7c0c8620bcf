use Rattle.std.proofs.Common.{◌≡◌, length}
use Rattle.hsr_runner.proofs.cells.seats_of.Given as goal

abbrev pub invariant-loop-node : goal.invariant-loop-node
invariant-loop-node g l = length l.seats.items ≡ l.node
