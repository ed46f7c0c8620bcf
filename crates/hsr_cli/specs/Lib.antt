pub mod Flags
pub mod Within
pub mod Playing
pub mod Options
pub mod Sweeping
pub mod Reporting
pub mod Choices
pub mod Refusal
