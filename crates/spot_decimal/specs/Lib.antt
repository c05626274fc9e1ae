-- The parts of decimal texts and their rounded sizes.
pub mod Written
