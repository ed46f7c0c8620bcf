pub mod Fault
pub mod Nodes
pub mod Links
pub mod Topology
pub mod Wired
pub mod Workers
