use Rattle.std.proofs.Common.{◌≡◌, None, drop}
use Rattle.std.specs.Prelude.{fold}
use Rattle.hsr_latency.specs.Kept.{worse}
use Rattle.hsr_latency.proofs.latency.worst_of.Given as goal

abbrev pub invariant-loop-latency : goal.invariant-loop-latency
invariant-loop-latency l = fold worse l.most (drop l.latency-index l.latencies) ≡ fold worse None l.latencies
