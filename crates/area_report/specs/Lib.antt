-- What is written of a run of the drivable area.
pub mod Areas
pub mod Egos
pub mod Totals
