pub mod Setup
pub mod Plays
pub mod Spans
pub mod Conditions
pub mod Law
