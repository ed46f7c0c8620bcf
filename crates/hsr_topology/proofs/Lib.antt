pub mod Addresses
pub mod Joins
pub mod Wired
pub mod Faults
pub mod Lookup
pub mod Back
pub mod Ends
