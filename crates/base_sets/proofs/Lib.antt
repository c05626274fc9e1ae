pub mod Axes
pub mod Slots
pub mod Boxes
pub mod Places
pub mod Passes
