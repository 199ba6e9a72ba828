pub mod CurveLosses
pub mod Refused
pub mod Ends
