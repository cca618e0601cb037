pub mod Checked
pub mod Files
pub mod Owners
pub mod Ranks
