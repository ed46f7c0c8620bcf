pub mod Rivals
pub mod Few
pub mod Leaves
