pub mod Copies
pub mod Joining
pub mod Judged
pub mod Order
pub mod Ordered
pub mod Ranges
pub mod Told
