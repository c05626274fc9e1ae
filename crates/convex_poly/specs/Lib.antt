-- The definitions, one module a concept.
pub mod Polygons
pub mod Boxes
pub mod Turns
pub mod Chains
pub mod Runs
pub mod Vectors
pub mod Pivots
pub mod OctRows
pub mod Sums
