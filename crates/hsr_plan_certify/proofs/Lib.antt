pub mod Whole
pub mod Sent
pub mod Led
pub mod Told
pub mod Woven
pub mod Listed
