use Rattle.std.proofs.Common.{◌≡◌, map, take}
use Rattle.hsr_timeline.specs.Fronts.{lists_of}
use Rattle.hsr_timeline.specs.IndexedCauses.{mains_of}
use Rattle.hsr_timeline.proofs.mains.all_places.Given as goal

abbrev pub invariant-loop-node : goal.invariant-loop-node
invariant-loop-node g l = lists_of l.records.items ≡ map mains_of (take l.node l.closed.run.records)
