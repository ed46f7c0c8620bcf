pub mod Blocks
pub mod Faults
