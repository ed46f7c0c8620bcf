pub mod Device
pub mod Fault
pub mod Fallible
pub mod Words
pub mod Lists
pub mod Reading
pub mod Telling
