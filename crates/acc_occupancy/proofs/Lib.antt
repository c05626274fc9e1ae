pub mod Bodies
pub mod Corners
pub mod Ends
pub mod LineSizes
pub mod Motions
pub mod Rows
pub mod Sizes
pub mod Starts
