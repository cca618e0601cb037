pub mod Decided
pub mod Shown
