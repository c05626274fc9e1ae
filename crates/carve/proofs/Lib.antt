pub mod Sweeps
pub mod Founds
pub mod PieceLaws
pub mod PieceRuns
pub mod Gathers
pub mod Linking
pub mod AmongColumns
pub mod CutSteps
mod Shared
pub mod BoxSums
pub mod RowCounts
pub mod RowPlaces
pub mod RowNumbers
