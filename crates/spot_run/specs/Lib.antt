-- What the top call writes and reads.
pub mod Areas
pub mod Drawings
pub mod Lines
pub mod Loads
pub mod RunOf
pub mod Samples
pub mod Tells
pub mod Writes
