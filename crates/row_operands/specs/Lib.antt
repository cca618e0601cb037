pub mod Looked
pub mod Past
pub mod Context
pub mod Plain
