pub mod Macs
pub mod Lists
mod Each
mod Documents
pub mod Sent
