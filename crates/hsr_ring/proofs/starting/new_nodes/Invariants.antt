use Rattle.std.proofs.Common.{◌≡◌, ◌++◌, drop}
use Rattle.hsr_ring.specs.Starting.{new_records}
use Rattle.hsr_ring.proofs.starting.new_nodes.Given as goal

abbrev pub invariant-loop-number : goal.invariant-loop-number
invariant-loop-number g l = l.nodes.items ++ new_records l.number (drop l.number l.places) ≡ new_records 0 l.places
