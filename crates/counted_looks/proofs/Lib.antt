pub mod Tallies
pub mod ListReads
pub mod PartsSeen
pub mod Covered
pub mod VerticesRead
