pub mod Told
pub mod Windows
