pub mod Merges
pub mod Pins
pub mod Splits
