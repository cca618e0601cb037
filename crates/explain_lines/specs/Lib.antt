pub mod LinesForProofs
pub mod ForProofs
