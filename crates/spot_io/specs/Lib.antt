-- What reading to the end and writing a text mean.
pub mod Reads
pub mod Writes
