pub mod Orders
pub mod Merged
pub mod Fair
pub mod InPlace
pub mod Runs
