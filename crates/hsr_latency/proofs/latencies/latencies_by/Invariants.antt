use Rattle.std.proofs.Common.{◌≡◌}
use Rattle.hsr_latency.specs.Latencies.{latencies_below}
use Rattle.hsr_latency.proofs.latencies.latencies_by.Given as goal

abbrev pub invariant-loop-node : goal.invariant-loop-node
invariant-loop-node g l = l.list.items ≡ latencies_below l.closed.run l.node
