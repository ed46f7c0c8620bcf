pub mod Summing
pub mod Worst
pub mod Listing
mod Most
