use Rattle.std.proofs.Common.{◌≡◌, reverse, take}
use Rattle.hsr_table_demand.specs.Read.{stations_of}
use Rattle.hsr_node.specs.Record.{now}
use Rattle.hsr_devices.specs.Known.{nodes_of}
use Rattle.hsr_devices.proofs.known.known_by.Given as goal

abbrev pub invariant-loop-i : goal.invariant-loop-i
invariant-loop-i l = record {
  moment : l.at ≡ now (reverse (take l.i l.entries));
  nodes : l.nodes ≡ nodes_of l.place (reverse (take l.i l.entries));
  stations : l.stations ≡ stations_of l.place (reverse (take l.i l.entries));
}
