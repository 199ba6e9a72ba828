pub mod Statuses
pub mod Overlays
pub mod Intervals
pub mod IntervalCells
