pub mod TypeRange
pub mod Pending
pub mod Counts
pub mod Ranges
pub mod Meaning
pub mod MeaningAt
pub mod ForProofs
pub mod Cases
