pub mod Turns
pub mod DartWalks
