pub mod Answers
pub mod Things
pub mod Rule
pub mod InOrder
pub mod ForProofs
