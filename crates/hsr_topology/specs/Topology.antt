-- What nodes and links are a topology.
use Rattle.std.specs.Prelude.{◌||◌, nat_lt, List, [], ◌∷◌, length, Option, Some, Result}
use Rattle.hsr_frame.specs.Cases.{first_of, unless}
use Rattle.hsr_node.specs.declared.place.Place.{Place}
use Rattle.hsr_topology.specs.Links.{links_fault}
use Rattle.hsr_topology.specs.Nodes.{has_bad_node}
use Rattle.hsr_topology.specs.declared.end.End.{End}
use Rattle.hsr_topology.specs.declared.fault.TopologyFault.{TopologyFault}
use Rattle.hsr_topology.specs.declared.fault.TopologyFault.TheVariants.{TooMany, BadNode}

pub record Topology : Type 0 where
  pub places : List Place
  -- each has two ends
  pub links : List (List End)

-- the first reason why they are none
unfoldable pub topology_fault : List Place → List (List End) → Option TopologyFault
topology_fault places links = first_of (
    (nat_lt 64 (length places) || nat_lt 128 (length links), Some TooMany)
    ∷ (has_bad_node places, Some BadNode)
    ∷ []) (links_fault places [] links)

-- the topology of these, or why there is none
abbrev pub made : List Place → List (List End) → Result Topology TopologyFault
made places links = unless (topology_fault places links) (record { places = places; links = links })
