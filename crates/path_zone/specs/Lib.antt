pub mod Plan
pub mod PathZone
pub mod Gathered
pub mod Begun
pub mod Zoned
