-- How a piece was found to lie to a point.
use Rattle.exact_plane.specs.Point.{Point}
use Rattle.plane_graphs.specs.Piece.{Piece}
use Rattle.piece_location.specs.declared.lies.Lie.{Lie}
use Rattle.piece_location.specs.declared.lies.Lie.TheVariants.{Below, Through, Apart}
use Rattle.piece_location.specs.Heights.{IsPieceSeen, IsPieceThrough}

-- the point neither sees the piece below it nor is on it, but for its ends
pub record IsApart (q : Point) (k : Piece) : Type 0 where
  pub unseen : IsPieceSeen q k → ⊥
  pub off : IsPieceThrough q k → ⊥

-- the piece lies so (Fogel, Halperin and Wein: vertical ray shooting)
abbrev pub IsLie : Point → Piece → Lie → Type 0
IsLie q k Below = IsPieceSeen q k
IsLie q k Through = IsPieceThrough q k
IsLie q k Apart = IsApart q k
