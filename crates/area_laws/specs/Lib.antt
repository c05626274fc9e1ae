-- Steps of the drivable area: what they make, and what it holds.
pub mod Leading
pub mod Filling
pub mod CellSets
pub mod Holding
pub mod Reaching
pub mod Rooms
pub mod Groups
pub mod Laws
