pub mod CycleLinks
pub mod CycleRanks
pub mod LowestDarts
