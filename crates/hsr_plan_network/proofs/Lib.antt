pub mod Naming
pub mod Passing
pub mod Linking
