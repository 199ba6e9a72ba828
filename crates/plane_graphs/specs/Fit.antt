-- What is asked of a present: its pieces lie on their segments, and those of one side of a curve don't touch.
use Rattle.std.specs.Prelude.{◌≡◌, ◌≤◌, true, false}
use Rattle.exact_plane.specs.Point.{Point}
use Rattle.exact_plane.specs.PointOrder.{point_cmp}
use Rattle.plane_graphs.specs.Ascending.{Member, IsAscending}
use Rattle.plane_graphs.specs.Line.{IsProper, IsWhole, precedes}
use Rattle.plane_graphs.specs.Piece.{Piece, Present, along, on}

-- the piece runs forward on its segment, which has whole ends, and between these (this project)
pub record IsFitPiece (k : Piece) : Type 0 where
  pub lower : IsWhole k.segment.lower
  pub upper : IsWhole k.segment.upper
  pub ahead : precedes k.segment.lower k.segment.upper ≡ true
  pub from : IsProper k.from
  pub to : IsProper k.to
  pub forward : precedes k.from k.to ≡ true
  pub from_on : along k k.from ≡ true
  pub to_on : along k k.to ≡ true
  pub from_within : precedes k.from k.segment.lower ≡ false
  pub to_within : precedes k.segment.upper k.to ≡ false
  pub first_side : 1 ≤ k.side
  pub last_side : k.side ≤ 8

-- the two pieces are of one side of one curve (this project)
abbrev pub AreOfOneSide : Piece → Piece → Type 0
AreOfOneSide k m = (k.curve ≡ m.curve) × (k.side ≡ m.side)

-- each piece is fit, the pins ascend, and pieces of one side have one segment and no common point (this project)
pub record IsFit (p : Present) : Type 0 where
  pub piece : (k : Piece) → Member k p.pieces → IsFitPiece k
  pub pin : (r : Point) → Member r p.pins → IsProper r
  pub pins_ascend : IsAscending point_cmp p.pins
  pub one_segment : (k m : Piece) → Member k p.pieces → Member m p.pieces → AreOfOneSide k m → k.segment ≡ m.segment
  pub one_piece : (k m : Piece) → Member k p.pieces → Member m p.pieces → AreOfOneSide k m → (t : Point) → IsProper t → on k t ≡ true → on m t ≡ true → k ≡ m
