pub mod Spelled
pub mod Lines
pub mod Exact
pub mod Parsed
pub mod Readable
pub mod Fits
