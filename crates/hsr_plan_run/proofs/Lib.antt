pub mod Reported
pub mod Whole
