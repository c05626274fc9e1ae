-- The definitions, one module a concept.
pub mod Answers
pub mod Beside
pub mod Bridges
pub mod Built
pub mod Holding
pub mod Kept
pub mod Levels
pub mod Links
pub mod Listing
pub mod Made
pub mod Nearby
pub mod Pieces
pub mod Boxes
pub mod Steps
