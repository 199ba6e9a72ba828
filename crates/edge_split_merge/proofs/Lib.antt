pub mod Parted
pub mod Written
pub mod Meeting
pub mod Removed
pub mod PartsInCycles
