pub mod Waiting
pub mod Lost
pub mod Sound
pub mod Order
mod Spelled
