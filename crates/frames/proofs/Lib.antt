pub mod Buffer
pub mod Families
pub mod FieldBack
pub mod Put
pub mod ReadBack
pub mod Same
pub mod Samples
pub mod Unknown
