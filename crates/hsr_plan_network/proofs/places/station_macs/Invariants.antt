use Rattle.std.proofs.Common.{◌≡◌, length, map, take}
use Rattle.hsr_plan_network.specs.Nodes.{station_mac}
use Rattle.hsr_plan_network.proofs.places.station_macs.Given as goal

abbrev pub invariant-loop-station : goal.invariant-loop-station
invariant-loop-station l = (length l.macs.items ≡ l.station-index) × (l.macs.items ≡ map (station_mac l.network l.boxes l.redbox) (take l.station-index l.stations))
