pub mod Looks
pub mod Boundaries
pub mod CycleLooks
