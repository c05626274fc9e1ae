-- How made scenarios are written and read.
pub mod Accepted
pub mod JsonOf
pub mod Written
