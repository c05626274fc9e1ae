-- Cells and what came into them.
pub mod BoxSlots
pub mod Tables
pub mod Cells
pub mod Slots
pub mod Merging
pub mod Adding
pub mod Opening
pub mod Planes
pub mod Strips
