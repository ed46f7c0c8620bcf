pub mod Spelled
pub mod Escaped
pub mod Grouped
pub mod JsonRead
pub mod PutRead
