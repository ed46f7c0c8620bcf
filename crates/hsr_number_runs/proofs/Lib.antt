pub mod Running
pub mod Back
pub mod Standing
