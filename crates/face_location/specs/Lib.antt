pub mod Below
pub mod Spots
pub mod Passing
