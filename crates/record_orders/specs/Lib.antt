pub mod CycleKeys
pub mod Keys
pub mod Edges
pub mod Bodies
