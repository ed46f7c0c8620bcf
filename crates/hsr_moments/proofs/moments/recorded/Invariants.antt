use Rattle.std.proofs.Common.{◌≡◌, reverse, take}
use Rattle.hsr_node.specs.Record.{now}
use Rattle.hsr_moments.specs.Recorded.{moments_in}
use Rattle.hsr_moments.proofs.moments.recorded.Given as goal

abbrev pub invariant-loop-x : goal.invariant-loop-x
invariant-loop-x l = record {
  moment : l.moment ≡ now (reverse (take l.x-index l.entries));
  moments : l.moments.items ≡ moments_in (reverse (take l.x-index l.entries));
}
