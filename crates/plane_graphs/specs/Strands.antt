-- The sides of curves told apart: the same pieces, each under a number of its own for its curve and its side.
use Rattle.std.specs.Prelude.{◌≡◌, ℕ, ◌+◌, ◌*◌, List, map}
use Rattle.plane_graphs.specs.Ascending.{Member}
use Rattle.plane_graphs.specs.Fit.{IsFit}
use Rattle.plane_graphs.specs.Graph.{vertices}
use Rattle.plane_graphs.specs.Piece.{Piece, Present}

-- the number that a side has among all sides of all curves, 16 for each curve (this project)
abbrev pub strand : ℕ → ℕ → ℕ
strand curve side = curve * 16 + side

-- the piece, under the number of its side in place of its curve's
abbrev pub strand_piece : Piece → Piece
strand_piece k = record k { curve = strand k.curve k.side }

abbrev pub strand_pieces : List Piece → List Piece
strand_pieces ks = map strand_piece ks

-- the present, with the sides of its curves told apart (this project)
abbrev pub strands : Present → Present
strands p = record { pieces = strand_pieces p.pieces; pins = p.pins }

-- a curve has one side only
abbrev pub HasOneSide : List Piece → Type 0
HasOneSide ks = (k m : Piece) → Member k ks → Member m ks → k.curve ≡ m.curve → k.side ≡ m.side

-- sides told apart: the present stays fit, each of its curves has one side, and its vertices are the same
pub record StrandsAreApart : Type 0 where
  pub fit : (p : Present) → IsFit p → IsFit (strands p)
  pub one_side : (p : Present) → IsFit p → HasOneSide (strands p).pieces
  pub vertices : (p : Present) → vertices (strands p) ≡ vertices p
