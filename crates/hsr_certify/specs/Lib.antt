pub mod Firsts
pub mod Tests
pub mod Served
pub mod Standing
pub mod Doubts
pub mod Tested
pub mod Verdict
pub mod AnyOrder
