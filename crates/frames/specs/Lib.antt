pub mod Bytes
pub mod Fields
pub mod Layout
pub mod Forms
pub mod Out
pub mod Written
pub mod ForProofs
