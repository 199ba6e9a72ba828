-- The edges that stretches run along, by the places of their ends.
use Rattle.std.specs.Prelude.{ℕ, List, map, slice_index_or}
use Rattle.std.specs.Ordering.{nat_cmp, ordering_then}
use Rattle.std.specs.declared.cmp.Ordering.{Ordering}
use Rattle.exact_plane.specs.Point.{Point}
use Rattle.plane_graphs.specs.Graph.{Edge, Mark}
use Rattle.plane_graphs.specs.Piece.{Present}
use Rattle.sweep_graphs.specs.declared.edges.EdgeEnds.{EdgeEnds}
use Rattle.sweep_graphs.specs.declared.trace.Stretch.{Stretch}
use Rattle.sweep_graphs.specs.Traces.{point_at}

-- the edge that a stretch runs along (Fogel, Halperin and Wein: overlapping subcurves make one edge)
abbrev pub ends_of : Stretch → EdgeEnds
ends_of s = record { low = s.low; high = s.high }

-- edges go by their lesser end first
abbrev pub ends_cmp : EdgeEnds → EdgeEnds → Ordering
ends_cmp e f = ordering_then (nat_cmp e.low f.low) (nat_cmp e.high f.high)

-- stretches go by their edges, then by their pieces
abbrev pub stretch_cmp : Stretch → Stretch → Ordering
stretch_cmp s t = ordering_then (nat_cmp s.low t.low) (ordering_then (nat_cmp s.high t.high) (nat_cmp s.piece t.piece))

-- the edge by the points of its ends
abbrev pub edge_between : List Point → EdgeEnds → Edge
edge_between points e = record { low = point_at points e.low; high = point_at points e.high }

-- the curve of the piece at a place
abbrev pub curve_at : Present → ℕ → ℕ
curve_at p i = slice_index_or (map (λ k. k.curve) p.pieces) i 0

-- the edge of a stretch with the curve of its piece (CGAL manual, arrangements with history)
abbrev pub mark_along : Present → List Point → Stretch → Mark
mark_along p points s = record { low = point_at points s.low; high = point_at points s.high; curve = curve_at p s.piece }
