pub mod Hidden
pub mod Spelling
pub mod Reading
pub mod Numbers
pub mod Frame
pub mod Lists
