pub mod BelowVertices
pub mod StartFaces
pub mod PointOrder
pub mod InnerCycles
pub mod FaceLinks
pub mod RootRanks
pub mod OuterRanks
pub mod LowestDarts
