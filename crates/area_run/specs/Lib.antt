-- Runs of the drivable area.
pub mod Plans
pub mod Passed
pub mod Columns
pub mod Rows
pub mod Stages
pub mod Running
pub mod Greatest
pub mod Windows
pub mod Strips
