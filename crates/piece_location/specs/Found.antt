-- What a look down from a point finds among pieces.
use Rattle.std.specs.Prelude.{◌≡◌, false, Option, Some, None}
use Rattle.exact_plane.specs.Point.{Point}
use Rattle.plane_graphs.specs.Ascending.{Member}
use Rattle.plane_graphs.specs.Piece.{Piece, Present}
use Rattle.slab_laws.specs.declared.names.DartId.{DartId}
use Rattle.slab_laws.specs.View.{View}
use Rattle.arr_notes.specs.Curves.{Curves}
use Rattle.piece_location.specs.Drawn.{IsAlongPiece}
use Rattle.piece_location.specs.Heights.{line_of, is_higher, IsPieceSeen, IsPieceThrough}

-- the point sees this piece, and none that is higher (Fogel, Halperin and Wein: vertical ray shooting)
pub record IsHighestPiece (p : Present) (q : Point) (k : Piece) : Type 0 where
  pub here : Member k p.pieces
  pub seen : IsPieceSeen q k
  pub highest : (m : Piece) → Member m p.pieces → IsPieceSeen q m → is_higher q (line_of m) (line_of k) ≡ false

-- no piece goes through the point
abbrev pub IsOffPieces : Present → Point → Type 0
IsOffPieces p q = (k : Piece) → Member k p.pieces → IsPieceThrough q k → ⊥

-- the dart goes along the highest piece below the point, where its edge has the point between its ends; with none, there is no piece below it (this project)
abbrev pub IsAlongHighest : View → Curves → Present → Point → Option DartId → Type 0
IsAlongHighest v h p q None = (k : Piece) → Member k p.pieces → IsPieceSeen q k → ⊥
IsAlongHighest v h p q (Some d) = (k : Piece) × IsHighestPiece p q k × IsAlongPiece v h k q d
