use Rattle.std.proofs.Common.{◌≡◌, length}
use Rattle.hsr_runner.proofs.cells.links_of.Given as goal

abbrev pub invariant-loop : goal.invariant-loop
invariant-loop l = length l.links.items ≡ l.counter
