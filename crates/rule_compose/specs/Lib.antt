pub mod Verdict
pub mod Rows
pub mod Judged
pub mod Cases
pub mod ForProofs
