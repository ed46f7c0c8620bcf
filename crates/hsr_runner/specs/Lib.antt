pub mod Plan
pub mod Faults
pub mod Runs
pub mod Endings
pub mod Brought
pub mod Wires
