-- The pieces through an event: those that end there and the others; the others by slope.
use Rattle.std.specs.Prelude.{ℕ, Bool, List, map, filter, not, length, nat_lt, ◌&&◌}
use Rattle.std.specs.Ordering.{nat_cmp, ordering_then}
use Rattle.std.specs.declared.cmp.Ordering.{Ordering}
use Rattle.exact_plane.specs.Point.{Point}
use Rattle.exact_plane.specs.Slope.{rise_cmp}
use Rattle.exact_plane.specs.Span.{Span}
use Rattle.plane_graphs.specs.Ascending.{ascending}
use Rattle.plane_graphs.specs.Line.{same_point}
use Rattle.sweep_events.specs.declared.places.PlacedLine.{PlacedLine}
use Rattle.sweep_events.specs.Places.{piece_at}

-- the line of a piece with its place
abbrev pub placed_line : List Span → ℕ → PlacedLine
placed_line pieces i = record { line = (piece_at pieces i).line; place = i }

-- the places of the lines
abbrev pub line_places : List PlacedLine → List ℕ
line_places lines = map (λ (s : PlacedLine). s.place) lines

-- by slope, then by place
abbrev pub placed_line_cmp : PlacedLine → PlacedLine → Ordering
placed_line_cmp s t = ordering_then (rise_cmp s.line t.line) (nat_cmp s.place t.place)

-- the piece ends at q
abbrev pub ends_there : (pieces : List Span) (q : Point) → ℕ → Bool
ends_there pieces q i = nat_lt i (length pieces) && same_point (piece_at pieces i).upper q

-- those of the places whose pieces end at q, ascending, each once
abbrev pub ending_of : List Span → Point → List ℕ → List ℕ
ending_of pieces q places = filter (ends_there pieces q) (ascending nat_cmp places)

-- and those whose pieces don't
abbrev pub others_of : List Span → Point → List ℕ → List ℕ
others_of pieces q places = filter (λ i. not (ends_there pieces q i)) (ascending nat_cmp places)
