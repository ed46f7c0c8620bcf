pub mod Fault
pub mod Tapping
pub mod Ends
pub mod Trying
pub mod Reporting
pub mod Examining
pub mod Judging
