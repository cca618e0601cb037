pub mod Reads
pub mod Numbers
pub mod Each
pub mod ForProofs
