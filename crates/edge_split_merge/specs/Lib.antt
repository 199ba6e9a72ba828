pub mod Splits
pub mod Merges
pub mod FacedParts
