pub mod Gains
pub mod Gives
