pub mod Parts
pub mod Unshown
