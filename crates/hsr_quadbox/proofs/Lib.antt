pub mod Steps
pub mod PastLaw
