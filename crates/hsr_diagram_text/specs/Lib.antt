pub mod Moments
pub mod Sends
pub mod Labels
pub mod Title
pub mod Sent
pub mod Told
pub mod Wrapped
