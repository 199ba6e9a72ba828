pub mod CellsAbove
pub mod Highest
pub mod Above
pub mod FaceLaws
pub mod Levels
