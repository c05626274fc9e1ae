-- The words of the command line.
pub mod Line
pub mod Parts
pub mod Words
