pub mod Word
pub mod ForProofs
pub mod Counts
pub mod Rows
