pub mod Means
pub mod Words
pub mod Steps
pub mod Said
