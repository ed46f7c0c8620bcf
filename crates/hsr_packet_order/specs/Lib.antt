pub mod Disorder
