pub mod Outputs
pub mod ForProofs
pub mod Cases
