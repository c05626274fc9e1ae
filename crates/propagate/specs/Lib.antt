-- The definitions, one module a concept.
pub mod Children
pub mod Growing
pub mod Ways
