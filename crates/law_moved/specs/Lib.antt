pub mod Moves
pub mod Frames
pub mod Out
pub mod Texts
