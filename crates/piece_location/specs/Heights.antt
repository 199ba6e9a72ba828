-- How pieces and their lines lie to a point, and which of two lines is the higher there.
use Rattle.std.specs.Prelude.{◌≡◌, pos, ◌<ℤ◌, neg_ℤ, Bool}
use Rattle.std.specs.Ordering.{ordering_then, is_gt}
use Rattle.std.specs.declared.cmp.Ordering.{Ordering}
use Rattle.integers.specs.Ratio.{ratio_cmp}
use Rattle.exact_plane.specs.Height.{height_over, height_under}
use Rattle.exact_plane.specs.Line.{Line, side_of}
use Rattle.exact_plane.specs.Point.{Point}
use Rattle.exact_plane.specs.PointOrder.{weight}
use Rattle.exact_plane.specs.Segment.{line_of_segment}
use Rattle.plane_graphs.specs.Graph.{Edge}
use Rattle.plane_graphs.specs.Piece.{Piece}
use Rattle.edge_predicates.specs.Highest.{IsSpanning}

-- the line of a piece, and the edge from its one end to its other
abbrev pub line_of : Piece → Line
line_of k = line_of_segment k.segment

abbrev pub ends_of : Piece → Edge
ends_of k = record { low = k.from; high = k.to }

-- the point is between the piece's ends, in point order
abbrev pub IsSpanned : Point → Piece → Type 0
IsSpanned q k = IsSpanning (ends_of k) q

-- the point is between the piece's ends and over its line: it sees the piece below it (Fogel, Halperin and Wein: vertical ray shooting)
pub record IsPieceSeen (q : Point) (k : Piece) : Type 0 where
  pub spanning : IsSpanning (ends_of k) q
  pub over_line : pos 0 <ℤ side_of (line_of k) q

-- the point is between the piece's ends and on its line
pub record IsPieceThrough (q : Point) (k : Piece) : Type 0 where
  pub spanning : IsSpanning (ends_of k) q
  pub on_line : side_of (line_of k) q ≡ pos 0

-- both ends of the edge are on the line
pub record IsOnLine (l : Line) (e : Edge) : Type 0 where
  pub low_on : side_of l e.low ≡ pos 0
  pub high_on : side_of l e.high ≡ pos 0

-- lines, none of them vertical, by their heights at the abscissa of a point, and of one height there by their slopes: by their heights just to the right of it, where the leant vertical below the point meets them (Fogel, Halperin and Wein: status order at an event); total on all triples
abbrev pub leant_cmp : Point → Line → Line → Ordering
leant_cmp q l m = ordering_then (ratio_cmp (height_over l q) (weight (height_under l q)) (height_over m q) (weight (height_under m q))) (ratio_cmp (neg_ℤ l.a) (weight l.b) (neg_ℤ m.a) (weight m.b))

-- the first is higher than the second
abbrev pub is_higher : Point → Line → Line → Bool
is_higher q l m = is_gt (leant_cmp q l m)
