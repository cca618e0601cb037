pub mod Put
pub mod Parts
pub mod Fits
pub mod Lines
pub mod Tests
pub mod Read
