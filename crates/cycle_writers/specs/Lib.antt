pub mod Runs
pub mod RunLaws
pub mod RunSteps
pub mod Taken
pub mod TakenLaws
