pub mod Longest
pub mod Samples
