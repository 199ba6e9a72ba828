pub mod Alone
pub mod Both
pub mod Cells
pub mod Counts
pub mod Curves
mod Examples
mod TextExamples
pub mod Labels
pub mod Laid
pub mod ListedCells
pub mod NamedFaces
pub mod OwnCells
pub mod Pairs
pub mod Parts
pub mod Points
pub mod UnitedGraph
