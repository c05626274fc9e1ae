-- What occupied pieces take away from a row, and what is left.
pub mod Cuts
pub mod Linked
pub mod Parts
pub mod Ranges
pub mod Rooms
pub mod Taking
pub mod RowSums
