pub mod Order
pub mod Starts
pub mod Names
pub mod Parts
pub mod Checks
pub mod Access
pub mod ForProofs
