pub mod Delivered
pub mod Counted
