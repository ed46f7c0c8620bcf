-- The nodes and the topology that a network means.
use Rattle.std.specs.Prelude.{List, map, ⊤, Result, Ok, Err}
use Rattle.hsr_topology.specs.Topology.{Topology, made}
use Rattle.hsr_topology.specs.declared.fault.TopologyFault.{TopologyFault}
use Rattle.hsr_toml.specs.Fallible.{◌>>=◌}
use Rattle.hsr_plan_text.specs.Plan.{Network}
use Rattle.hsr_plan_text.specs.declared.fault.What.{What}
use Rattle.hsr_plan_text.specs.declared.fault.What.TheVariants.{Refused}
use Rattle.hsr_plan_text.specs.declared.fault.Refusal.TheVariants.{Topology as NoTopology}
use Rattle.hsr_plan_network.specs.Checks.{each_passes, passes}
use Rattle.hsr_plan_network.specs.Addresses.{is_own}
use Rattle.hsr_plan_network.specs.Links.{links_of}
use Rattle.hsr_plan_network.specs.Nodes.{Node, nodes_of}

pub record Wired : Type 0 where
  pub nodes : List Node
  pub topology : Topology

abbrev pub topology_in : Result Topology TopologyFault → Result Topology What
topology_in (Ok topology) = Ok topology
topology_in (Err fault) = Err (Refused NoTopology)

-- where all names pass, and no given address is another node's: the nodes, and the topology of their kinds and the links
abbrev pub wired : Network → Result Wired What
wired network = passes network >>= λ _. each_passes (is_own (nodes_of network)) network.addresses
    >>= λ _. topology_in (made (map (λ node. node.place) (nodes_of network)) (links_of network))
    >>= λ topology. Ok (record { nodes = nodes_of network; topology = topology })
