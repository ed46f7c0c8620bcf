pub mod Carried
pub mod Windows
pub mod Sums
pub mod Loads
