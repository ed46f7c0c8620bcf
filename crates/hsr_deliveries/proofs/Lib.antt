pub mod Counting
pub mod Gathering
pub mod Completing
