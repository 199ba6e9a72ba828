pub mod Heights
pub mod Drawn
pub mod Found
pub mod Lies
pub mod Looks
pub mod Layers
