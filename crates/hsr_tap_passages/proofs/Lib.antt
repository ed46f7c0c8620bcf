pub mod Steps
pub mod Tapped
