-- Edges as parts of the lines of pieces.
use Rattle.std.specs.Prelude.{◌≡◌, List, [], ◌∷◌, ◌++◌, true}
use Rattle.exact_plane.specs.Segment.{line_of_segment}
use Rattle.exact_plane.specs.Span.{Span}
use Rattle.plane_graphs.specs.Ascending.{Member}
use Rattle.plane_graphs.specs.Graph.{Mark, Edge}
use Rattle.plane_graphs.specs.Line.{precedes}
use Rattle.plane_graphs.specs.Piece.{Piece, Present, on}
use Rattle.present_graphs.specs.Spans.{lies_on}

-- both ends of the mark's edge are on the span
pub record IsOnSpan (s : Span) (m : Mark) : Type 0 where
  pub low_on : lies_on s m.low ≡ true
  pub high_on : lies_on s m.high ≡ true

-- the mark's edge goes forward, and one of the spans holds it
pub record HasSpan (ss : List Span) (m : Mark) : Type 0 where
  pub forward : precedes m.low m.high ≡ true
  pub whole : Span
  pub whole_in : Member whole ss
  pub holds : IsOnSpan whole m

-- the span is the mark's edge, on the line of one of the spans that hold it
pub record IsAlong (ss : List Span) (m : Mark) (s : Span) : Type 0 where
  pub lower : s.lower ≡ m.low
  pub upper : s.upper ≡ m.high
  pub whole : Span
  pub whole_in : Member whole ss
  pub holds : IsOnSpan whole m
  pub line : s.line ≡ whole.line

-- the edge is the last one
abbrev pub IsLast : Edge → List Edge → Type 0
IsLast e es = (front : List Edge) × (es ≡ front ++ e ∷ [])

-- the line of each span is the line of every piece that holds both its ends
abbrev pub AreAlongPieces : Present → List Span → Type 0
AreAlongPieces p ss = (s : Span) → Member s ss → (k : Piece) → Member k p.pieces → on k s.lower ≡ true → on k s.upper ≡ true → s.line ≡ line_of_segment k.segment
