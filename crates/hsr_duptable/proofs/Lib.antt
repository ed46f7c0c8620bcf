pub mod RisingNotes
pub mod LogLaws
pub mod Within
pub mod Chains
pub mod Walks
