-- The definitions, one module a concept.
pub mod Origin
pub mod Frames
pub mod Clips
pub mod Parts
pub mod Octagons
pub mod Growth
