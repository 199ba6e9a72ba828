pub mod EdgePlaces
pub mod Links
pub mod FacedLinks
pub mod Halves
