pub mod LandMoved
