pub mod Values
pub mod Files
pub mod Handed
pub mod Answers
