pub mod Edges
pub mod Marks
pub mod Shared
pub mod Spans
