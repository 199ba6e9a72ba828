pub mod Insertion
pub mod Coming
pub mod Looks
pub mod Parts
pub mod Paths
pub mod StepsMade
