pub mod Behind
pub mod Places
pub mod Ports
pub mod Touched
pub mod Apart
pub mod Anywhere
