pub mod Spans
pub mod Aside
pub mod Led
pub mod Drawn
pub mod ToldOf
pub mod Boxes
pub mod Layers
pub mod Shown
