-- Base sets, the ego, its grid, its boxes and its ticks, as the program holds them.
pub mod Values
pub mod Passes
