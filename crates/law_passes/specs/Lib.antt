pub mod Passes
pub mod Binary
pub mod InBoth
pub mod Cases
pub mod ForProofs
