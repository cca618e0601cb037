pub mod Numbers
pub mod Scalars
pub mod TypeMethods
pub mod ForProofs
pub mod Formats
