pub mod Bytes
pub mod Same
pub mod Placed
pub mod Buffer
pub mod Room
