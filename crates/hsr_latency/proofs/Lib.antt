mod First
mod Order
mod Walks
mod Grouping
