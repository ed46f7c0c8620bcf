pub mod Decimals
pub mod Cuts
pub mod LineCuts
pub mod Pieces
pub mod Standing
pub mod Units
mod Looks
