pub mod Hex
pub mod Lines
pub mod Reading
pub mod Room
