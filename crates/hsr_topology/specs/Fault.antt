-- The numbers of faults in texts.
use Rattle.std.specs.Prelude.{ℕ}
use Rattle.hsr_topology.specs.declared.fault.TopologyFault.{TopologyFault}
use Rattle.hsr_topology.specs.declared.fault.TopologyFault.TheVariants.{TooMany, BadNode, NoSuchPort, PortTwice, WrongPeer}

abbrev pub topology_fault_code : TopologyFault → ℕ
topology_fault_code TooMany = 1
topology_fault_code BadNode = 2
topology_fault_code NoSuchPort = 3
topology_fault_code PortTwice = 4
topology_fault_code WrongPeer = 5
