pub mod Times
pub mod Asking
pub mod Open
