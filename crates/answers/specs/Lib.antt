pub mod Limit
pub mod Outcome
pub mod Answer
pub mod Asked
pub mod Numbers
pub mod ForProofs
