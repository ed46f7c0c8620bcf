pub mod Entries
pub mod Rows
pub mod Data
pub mod Whole
