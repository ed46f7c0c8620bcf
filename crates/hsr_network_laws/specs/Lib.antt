pub mod Network
pub mod Channels
pub mod Late
pub mod Delivered
pub mod Lives
pub mod Stations
pub mod Rings
