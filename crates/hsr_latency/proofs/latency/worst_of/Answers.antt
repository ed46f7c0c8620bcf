use Rattle.std.proofs.Common.{◌≤◌, ◌∙◌, List, length, ap, sym, arith, drop_of_length-le}
use Rattle.std.specs.Prelude.{fold}
use Rattle.hsr_latency.specs.Kept.{worse}
use Rattle.hsr_latency.specs.declared.latency.NodeLatency.{NodeLatency}
use Rattle.hsr_latency.proofs.Walks.{worst_is}
use Rattle.hsr_latency.proofs.latency.worst_of.Goals as goal

pub returns : goal.returns
returns c =
    let latencies : List NodeLatency = c.args.latencies.now in
    let all : length latencies ≤ c.loop-latency.latency-index = omega arith in
    sym (ap (λ (rest : List NodeLatency). fold worse c.loop-latency.most rest) (drop_of_length-le latencies all)) ∙ (c.loop-latency.invariant ∙ worst_is latencies)
