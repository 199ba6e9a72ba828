pub mod Turns
pub mod FaceWalks
pub mod WholeWalks
pub mod Listed
