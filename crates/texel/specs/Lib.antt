pub mod Texel
pub mod Exported
