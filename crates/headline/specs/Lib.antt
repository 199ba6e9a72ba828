pub mod Rows
pub mod Maps
pub mod Intervals
