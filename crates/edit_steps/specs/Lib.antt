pub mod Allowed
pub mod Edits
pub mod Layer
pub mod EditLaws
pub mod Steps
pub mod Refusals
