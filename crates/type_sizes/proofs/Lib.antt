pub mod Written
pub mod Found
