pub mod Canonical
pub mod Comparison
pub mod Looks
pub mod Cases
pub mod ForProofs
