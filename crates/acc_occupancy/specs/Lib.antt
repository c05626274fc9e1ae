-- The definitions, one module a concept.
pub mod Lines
pub mod Runs
