use Rattle.std.proofs.Common.{◌≡◌, ◌++◌, take}
use Rattle.std.specs.List.{flat_map}
use Rattle.hsr_plan_page.specs.Data.{latency_row}
use Rattle.hsr_plan_page.proofs.data.put_latencies.Given as goal

abbrev pub invariant-loop-latency : goal.invariant-loop-latency
invariant-loop-latency l = l.text.items ≡ l.initial.text.items ++ flat_map latency_row (take l.latency-index l.latencies)
