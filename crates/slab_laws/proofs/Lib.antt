pub mod Examples
pub mod KindLemmas
pub mod TriangleLemmas
pub mod TriangleSound
pub mod TriangleExample
