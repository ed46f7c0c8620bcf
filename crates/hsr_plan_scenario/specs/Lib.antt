pub mod Sends
pub mod Spelled
pub mod Says
pub mod Refusals
pub mod Input
pub mod Ends
pub mod Runs
