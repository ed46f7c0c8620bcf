pub mod Growing
pub mod Circles
mod Named
pub mod Placing
pub mod Sided
mod Walked
pub mod Pairing
pub mod Showing
