use Rattle.std.proofs.Common.{◌≡◌, ◌++◌, map, take}
use Rattle.hsr_plan_network.specs.Links.{interlink}
use Rattle.hsr_plan_network.proofs.links.add_interlinks.Given as goal

abbrev pub invariant-loop-name : goal.invariant-loop-name
invariant-loop-name l = l.links.items ≡ l.initial.links.items ++ map (interlink l.names l.boxes) (take l.name-index l.boxes)
