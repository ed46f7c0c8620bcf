pub mod Freeing
pub mod Showing
