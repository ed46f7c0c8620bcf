pub mod Filled
pub mod Steps
