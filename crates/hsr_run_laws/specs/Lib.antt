pub mod Run
pub mod Closed
pub mod Premises
pub mod Once
pub mod Budget
