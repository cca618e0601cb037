pub mod Laws
pub mod Lengths
pub mod Limits
pub mod Room
pub mod Marked
