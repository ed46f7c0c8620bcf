pub mod Next
pub mod Counted
