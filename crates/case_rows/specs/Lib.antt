pub mod Lines
pub mod AccessCases
pub mod Cases
