pub mod Reader
pub mod Ours
pub mod ShutOut
pub mod ForProofs
