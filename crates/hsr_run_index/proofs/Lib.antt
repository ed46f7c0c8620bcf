pub mod Often
pub mod AsOften
pub mod Counting
pub mod Indexing
pub mod Decided
pub mod Forwards
pub mod Turning
