pub mod Simple
pub mod Unique
pub mod Ranges
