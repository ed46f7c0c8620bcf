use Rattle.std.proofs.Common.{◌≡◌, ◌++◌, take}
use Rattle.std.specs.List.{flat_map}
use Rattle.hsr_report.specs.LatencyLines.{latency_line}
use Rattle.hsr_report.proofs.latency_lines.put_lines.Given as goal

abbrev pub invariant-loop-latency : goal.invariant-loop-latency
invariant-loop-latency l = l.text.items ≡ l.initial.text.items ++ flat_map (latency_line l.naming) (take l.latency-index l.latencies)
