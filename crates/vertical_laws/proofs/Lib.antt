pub mod WallStops
pub mod LowerNeighbour
pub mod UpperNeighbour
mod Examples
