pub mod Words
pub mod Lines
pub mod Types
pub mod Answers
pub mod Sizes
pub mod Explained
pub mod Sized
pub mod Cases
