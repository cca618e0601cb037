pub mod Equality
pub mod Groups
pub mod Parts
pub mod Cases
