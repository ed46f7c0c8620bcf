pub mod Tallying
pub mod Naming
pub mod Coming
