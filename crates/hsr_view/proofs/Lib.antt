mod Showing
pub mod Sending
mod Unshown
mod Texts
