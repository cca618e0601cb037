pub mod Ours
pub mod Only
pub mod ShutOut
pub mod Kept
