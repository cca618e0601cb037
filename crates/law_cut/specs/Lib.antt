pub mod Marks
pub mod Smallest
pub mod Names
pub mod Cut
pub mod File
pub mod Exported
