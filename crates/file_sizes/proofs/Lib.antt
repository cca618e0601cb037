pub mod Alike
pub mod Ranged
