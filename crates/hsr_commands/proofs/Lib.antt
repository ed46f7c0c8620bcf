pub mod Turns
pub mod Said
pub mod Telling
mod Opening
mod Runs
mod Putting
