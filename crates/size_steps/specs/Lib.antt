pub mod SoFar
pub mod Exact
