pub mod Coarse
pub mod Found
pub mod Words
