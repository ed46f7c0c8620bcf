pub mod Parted
pub mod Opening
pub mod Turning
pub mod Numbered
pub mod Fated
pub mod Differing
pub mod Latest
pub mod Once
pub mod Verdict
mod Taking
