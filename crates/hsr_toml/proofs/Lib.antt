pub mod Fallible
pub mod Arrays
pub mod Lists
pub mod Columns
pub mod Lexings
pub mod Lines
