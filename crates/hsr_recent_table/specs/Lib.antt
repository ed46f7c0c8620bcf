pub mod Recent
pub mod Previous
pub mod Ready
