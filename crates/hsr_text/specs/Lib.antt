pub mod Words
pub mod Moments
pub mod Lines
pub mod Whole
