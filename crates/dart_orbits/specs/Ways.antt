-- The ways in which darts go out of their sources.
use Rattle.std.specs.Prelude.{◌<◌, ℕ, pos, List, map, false, length, slice_index_or}
use Rattle.std.specs.List.{range_with_len}
use Rattle.std.specs.Ordering.{nat_cmp, ordering_then}
use Rattle.std.specs.declared.cmp.Ordering.{Ordering}
use Rattle.exact_plane.specs.Point.{Point}
use Rattle.exact_plane.specs.Slope.{rise_cmp}
use Rattle.exact_plane.specs.Span.{Span, IsSpan}
use Rattle.slab_laws.specs.declared.rows.ListedDart.{ListedDart}
use Rattle.slab_laws.specs.Darts.{class}
use Rattle.slab_laws.specs.SpansDrawn.{edge_of}
use Rattle.dart_orbits.specs.declared.ways.Way.{Way}

-- a row for the places where there is none
abbrev pub no_row : ListedDart
no_row = record { source = 0; target = 0; edge = 0; forward = false }

-- and a span
abbrev pub no_span : Span
no_span = let p : Point = record { x = pos 0; y = pos 0; w = pos 1 } in record { lower = p; upper = p; line = record { a = pos 0; b = pos 0; c = pos 0 } }

-- the row at a place
abbrev pub row_in : List ListedDart → ℕ → ListedDart
row_in rows k = slice_index_or rows k no_row

-- the span along which a row's dart goes
abbrev pub span_of_row : List Span → ListedDart → Span
span_of_row edges r = slice_index_or edges r.edge no_span

-- the way in which the dart at a place goes out (CGAL manual, circulator around a vertex)
abbrev pub way_at : List Span → List ListedDart → ℕ → Way
way_at edges rows k =
    let r : ListedDart = row_in rows k in
    let s : Span = span_of_row edges r in
    record { source = r.source; quarter = class (edge_of s) r.forward; line = s.line; dart = k }

-- those of all darts
abbrev pub ways_by : List Span → List ListedDart → List Way
ways_by edges rows = map (way_at edges rows) (range_with_len 0 (length rows))

-- round one source by quarter, then from steep lines to flat ones (this project)
abbrev pub turn_cmp : Way → Way → Ordering
turn_cmp v w = ordering_then (nat_cmp v.quarter w.quarter) (ordering_then (rise_cmp w.line v.line) (nat_cmp v.dart w.dart))

-- by source, and so round it (this project)
abbrev pub way_cmp : Way → Way → Ordering
way_cmp v w = ordering_then (nat_cmp v.source w.source) (turn_cmp v w)

-- the dart that goes out in it
abbrev pub dart_of_way : Way → ℕ
dart_of_way w = w.dart

-- each row's edge is there
abbrev pub AreOnEdges : List Span → List ListedDart → Type 0
AreOnEdges edges rows = (k : ℕ) → k < length rows → (row_in rows k).edge < length edges

-- and is a part of a line
abbrev pub AreOnSpans : List Span → List ListedDart → Type 0
AreOnSpans edges rows = (k : ℕ) → k < length rows → IsSpan (span_of_row edges (row_in rows k))
