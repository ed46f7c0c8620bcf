pub mod Windows
pub mod Needs
pub mod Tallied
pub mod Read
pub mod Logged
pub mod Walked
