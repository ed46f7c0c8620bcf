use Rattle.std.proofs.Common.{◌≡◌, ◌++◌, take}
use Rattle.hsr_topology.proofs.same.are_same_places.Given as goal

abbrev pub invariant-loop-place : goal.invariant-loop-place
invariant-loop-place l = take l.place-index l.a ++ l.left ≡ l.b
