pub mod Fitting
pub mod Growing
pub mod Showing
