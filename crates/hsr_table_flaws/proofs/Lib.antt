pub mod Placing
pub mod Logging
pub mod Judging
pub mod Firsts
pub mod Clearing
pub mod Marking
