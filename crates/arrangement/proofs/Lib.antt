pub mod OneToOne
pub mod CellsCounted
pub mod Layers
pub mod Edits
pub mod Watched
pub mod Ends
mod Located
mod Started
pub mod FacesRead
mod FaceNumbers
pub mod PresentsRead
pub mod OverlayRows
mod PiecesCounted
mod OddEnds
pub mod Listing
pub mod ZonesMet
