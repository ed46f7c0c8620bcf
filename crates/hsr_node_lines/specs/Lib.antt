pub mod Faults
pub mod Taps
pub mod Passage
pub mod Spelled
pub mod Own
pub mod Lines
