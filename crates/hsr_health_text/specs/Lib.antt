pub mod Words
pub mod Interfaces
pub mod Points
pub mod Breaks
pub mod Sources
pub mod Kinds
pub mod Reasons
pub mod Report
