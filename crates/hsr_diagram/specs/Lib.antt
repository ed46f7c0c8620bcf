pub mod Panels
pub mod Free
pub mod Wanted
pub mod Arrows
pub mod Sends
pub mod Pictures
