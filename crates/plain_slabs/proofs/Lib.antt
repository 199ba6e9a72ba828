mod ChosenCounts
mod Feet
mod Gathered
mod Loops
mod Reached
mod Unlinked
mod LabelTables
mod CellOrder
mod LabelledCells
mod TurnCases
mod NearerDarts
mod LeadLinks
mod EdgeRows
mod Oddness
pub mod Finds
pub mod FaceLists
pub mod LeadRows
pub mod Building
pub mod Counted
pub mod ReadKeys
pub mod FlatLists
pub mod NamedEdges
pub mod NamedMarks
pub mod NamedGraph
mod LayerPieces
mod LayerCells
mod LayerLabels
mod PieceCounts
