pub mod Runs
pub mod Long
