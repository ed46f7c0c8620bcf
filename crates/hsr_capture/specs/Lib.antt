pub mod Comments
pub mod Capture
pub mod Fits
