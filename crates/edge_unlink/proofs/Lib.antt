pub mod Rests
pub mod Closing
pub mod UnlinkedMaps
pub mod TwoParts
pub mod BrokenMaps
pub mod Emptied
pub mod UnitedMaps
