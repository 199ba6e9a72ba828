pub mod SeenDarts
pub mod PointFaces
pub mod Passings
