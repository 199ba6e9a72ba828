pub mod FaceParts
pub mod Boundaries
pub mod Located
