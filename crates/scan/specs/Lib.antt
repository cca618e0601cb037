pub mod Lowest
pub mod Lists
pub mod ForProofs
