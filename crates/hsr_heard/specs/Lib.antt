pub mod Hearing
pub mod Subjects
pub mod Finding
