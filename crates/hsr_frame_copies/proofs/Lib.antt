pub mod Zeros
mod Placing
