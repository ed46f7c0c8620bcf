pub mod Views
pub mod Hands
pub mod Giving
pub mod Ports
pub mod Touching
pub mod Parting
