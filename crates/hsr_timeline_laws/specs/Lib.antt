pub mod Stands
pub mod Keeps
