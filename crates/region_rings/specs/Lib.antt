pub mod Wide
pub mod Spokes
pub mod Nexts
pub mod Cycles
pub mod Holes
pub mod Nesting
pub mod Rings
pub mod Closed
