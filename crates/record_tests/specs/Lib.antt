pub mod Lone
pub mod Noted
