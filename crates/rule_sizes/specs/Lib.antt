pub mod TypeSize
pub mod Wgsl
pub mod WgslTable
pub mod Sizes
pub mod Meaning
pub mod Cases
pub mod ForProofs
