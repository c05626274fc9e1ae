-- What a prediction has of a scenario, and the pieces that it occupies.
pub mod Outsets
pub mod Pieces
pub mod Places
pub mod Predictions
