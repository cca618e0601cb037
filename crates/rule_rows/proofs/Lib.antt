pub mod Loads
pub mod Members
pub mod Parts
pub mod Storage
pub mod Formats
pub mod Written
pub mod Wgsl
