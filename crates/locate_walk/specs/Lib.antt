pub mod Passages
pub mod Finds
pub mod Looks
pub mod Rounds
