pub mod Contents
pub mod Alike
