pub mod OnceListed
pub mod KeptDarts
pub mod FoundVertices
pub mod Located
