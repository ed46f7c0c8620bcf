pub mod Given
pub mod Unnamed
