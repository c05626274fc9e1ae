mod Bounds
pub mod Boxes
mod Covers
mod Polynomials
pub mod Speeds
mod Sums
mod Terms
