pub mod Replies
pub mod Digits
mod Answering
mod LastOctets
