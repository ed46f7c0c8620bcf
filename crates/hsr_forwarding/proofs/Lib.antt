pub mod Arrivals
pub mod Spending
pub mod Counts
pub mod Pasts
pub mod Keeping
pub mod Wants
