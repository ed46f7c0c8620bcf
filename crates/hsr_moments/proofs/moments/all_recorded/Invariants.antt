use Rattle.std.proofs.Common.{◌≡◌, map, take}
use Rattle.hsr_moments.specs.Recorded.{lists_of, moments_recorded}
use Rattle.hsr_moments.proofs.moments.all_recorded.Given as goal

abbrev pub invariant-loop-node : goal.invariant-loop-node
invariant-loop-node g l = lists_of l.records.items ≡ map moments_recorded (take l.node l.closed.run.records)
