pub mod Data
pub mod Whole
