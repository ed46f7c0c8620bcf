pub mod Listing
pub mod Whole
pub mod Sending
pub mod Rows
pub mod Absent
pub mod Called
