pub mod Request
pub mod Reply
