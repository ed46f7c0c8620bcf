pub mod HexDigits
mod Lanes
mod TwoDigits
pub mod Overlaps
