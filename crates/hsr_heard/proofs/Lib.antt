pub mod Telling
pub mod Sorted
pub mod Subjects
