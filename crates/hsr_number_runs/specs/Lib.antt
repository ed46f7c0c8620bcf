pub mod Runs
pub mod Counting
pub mod Gaps
pub mod Elsewhere
pub mod Nearest
