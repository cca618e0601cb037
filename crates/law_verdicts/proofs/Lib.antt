pub mod Composes
pub mod Reading
pub mod Numbers
pub mod Each
pub mod NoDefault
