use Rattle.std.proofs.Common.{◌≡◌, ◌++◌, take}
use Rattle.std.specs.List.{flat_map}
use Rattle.hsr_timeline.specs.Fronts.{lists_of}
use Rattle.hsr_devices.specs.Describing.{station_text}
use Rattle.hsr_devices.proofs.describing.put_stations.Given as goal

abbrev pub invariant-loop-station : goal.invariant-loop-station
invariant-loop-station l = l.text.items ≡ l.initial.text.items ++ flat_map (station_text (lists_of l.names) l.places) (take l.station-index l.stations)
