pub mod PieceRows
pub mod PiecesInMemory
pub mod Writes
