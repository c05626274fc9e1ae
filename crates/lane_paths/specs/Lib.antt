-- The definitions, one module a concept.
pub mod Clearances
pub mod GapBounds
pub mod Walks
pub mod Closed
pub mod Edges
pub mod Waypoints
pub mod Relaxations
pub mod Labels
pub mod Reached
