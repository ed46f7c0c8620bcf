pub mod Names
pub mod Checks
pub mod Nodes
pub mod Addresses
pub mod Links
pub mod Wiring
