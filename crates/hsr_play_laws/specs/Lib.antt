pub mod Told
pub mod Ending
pub mod Running
pub mod Accepted
