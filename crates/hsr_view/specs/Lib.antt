pub mod Agreeing
pub mod Fault
pub mod Viewing
pub mod Refusals
pub mod Ends
