mod Fitting
pub mod Growing
