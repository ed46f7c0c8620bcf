pub mod Faults
pub mod Headings
pub mod Interfaces
pub mod Shown
