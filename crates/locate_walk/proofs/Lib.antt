pub mod EndsCompared
pub mod Finds
pub mod Heights
pub mod Takes
pub mod Beyond
pub mod BesidePoint
pub mod Rounds
pub mod Examples
