pub mod Known
pub mod Proxies
pub mod Nodes
