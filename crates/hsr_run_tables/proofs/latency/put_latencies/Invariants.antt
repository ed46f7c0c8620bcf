use Rattle.std.proofs.Common.{◌≡◌, ◌++◌, map, take}
use Rattle.std.specs.List.{flat_map}
use Rattle.hsr_run_tables.specs.Rows.{latency_row}
use Rattle.hsr_run_tables.specs.Table.{IsBetween, line, written}
use Rattle.hsr_run_tables.proofs.latency.put_latencies.Given as goal

abbrev pub invariant-loop-latency : goal.invariant-loop-latency
invariant-loop-latency l =
    IsBetween l.table × (written l.table ≡ written l.initial.table ++ flat_map line (map (latency_row l.naming) (take l.latency-index l.latencies)))
