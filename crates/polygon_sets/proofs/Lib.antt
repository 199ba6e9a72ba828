mod Chaining
mod Spreading
pub mod OddRows
mod BorderRows
mod FaceSides
pub mod SumsByDarts
mod Turning
mod RegionRows
mod CrossedRows
pub mod RegionLayers
pub mod OnceSummed
pub mod NamesSummed
pub mod WaysRound
pub mod Onward
pub mod ClosedRegions
pub mod BorderGraphs
pub mod BorderSets
pub mod RegionBoundaries
pub mod BoundaryNext
