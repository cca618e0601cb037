pub mod Choices
pub mod InOrder
pub mod Later
pub mod LaterIs
pub mod Named
pub mod Shows
pub mod Wider
pub mod Carried
