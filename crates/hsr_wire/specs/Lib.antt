pub mod Octets
pub mod Time
