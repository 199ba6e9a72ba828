pub mod Edges
pub mod EdgesBelow
pub mod Traces
pub mod TraceLaws
