pub mod File
pub mod Types
pub mod Forms
pub mod Typed
pub mod Typing
pub mod Printed
pub mod ForProofs
pub mod Exported
