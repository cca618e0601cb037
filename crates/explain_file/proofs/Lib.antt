pub mod Fitting
pub mod File
pub mod FileSizes
pub mod Fits
pub mod Alike
pub mod Said
