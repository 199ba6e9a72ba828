pub mod Script
pub mod Remaining
