use Rattle.std.proofs.Common.{◌≡◌, ◌++◌, take}
use Rattle.hsr_topology.proofs.same.are_same_links.Given as goal

abbrev pub invariant-loop-link : goal.invariant-loop-link
invariant-loop-link l = take l.link-index l.a ++ l.left ≡ l.b
