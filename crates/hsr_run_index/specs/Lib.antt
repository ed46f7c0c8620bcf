pub mod Often
pub mod InOrder
pub mod Origin
pub mod Indexed
pub mod Turns
