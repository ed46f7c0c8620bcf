use Rattle.std.proofs.Common.{◌≡◌, reverse, take}
use Rattle.hsr_node.specs.Record.{now}
use Rattle.hsr_run_laws.specs.Run.{place_of, record_of}
use Rattle.hsr_table_demand.specs.Read.{stations_of}
use Rattle.hsr_audit.specs.Missed.{IsLowest, MissedOn}
use Rattle.hsr_audit.proofs.missed.missed_by.Given as goal

abbrev pub invariant-loop-place : goal.invariant-loop-place
invariant-loop-place g l = record {
  moment : l.moment ≡ now (reverse (take l.place (record_of l.closed.run l.fn.node)));
  stations : l.stations ≡ stations_of (place_of l.closed.run l.fn.node) (reverse (take l.place (record_of l.closed.run l.fn.node)));
  lowest : IsLowest (MissedOn l.closed.run l.fn.node (reverse (take l.place (record_of l.closed.run l.fn.node)))) l.lowest;
}
