pub mod Rows
pub mod Queue
pub mod Link
pub mod Parts
pub mod Calls
pub mod Cell
pub mod Words
