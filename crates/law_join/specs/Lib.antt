pub mod Join
pub mod Joinable
pub mod File
