pub mod Tables
pub mod Numbered
pub mod Others
pub mod Keys
pub mod Formats
pub mod Equal
pub mod SameTypes
