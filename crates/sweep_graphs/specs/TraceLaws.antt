-- What a sweep leaves of a present is the present's graph, with what is directly below each vertex.
use Rattle.std.specs.Prelude.{◌≡◌, ◌<◌, ℕ, length, map, List, slice_index_or, Option, Some, None}
use Rattle.std.specs.Option.{option_map}
use Rattle.std.specs.List.{Contains}
use Rattle.exact_plane.specs.Point.{Point, IsPoint}
use Rattle.plane_graphs.specs.Ascending.{Member, ascending}
use Rattle.plane_graphs.specs.Fit.{IsFit}
use Rattle.plane_graphs.specs.Graph.{graph, edges, mark_cmp, vertices}
use Rattle.plane_graphs.specs.Piece.{Present}
use Rattle.present_graphs.specs.Spans.{span_of_piece}
use Rattle.slab_laws.specs.Text.{skeleton}
use Rattle.edge_predicates.specs.Highest.{IsHighestBelow}
use Rattle.sweep_events.specs.Places.{AreSpans}
use Rattle.sweep_graphs.specs.declared.edges.EdgeEnds.{EdgeEnds}
use Rattle.sweep_graphs.specs.declared.trace.OpenStretch.{OpenStretch}
use Rattle.sweep_graphs.specs.declared.trace.Stretch.{Stretch}
use Rattle.sweep_graphs.specs.declared.trace.Trace.{Trace}
use Rattle.sweep_graphs.specs.EdgesBelow.{IsOpened, AreClosed, AreEdgesUnder}
use Rattle.sweep_graphs.specs.Edges.{ends_of, ends_cmp, edge_between, mark_along}
use Rattle.sweep_graphs.specs.Traces.{point_at, IsTrace}

-- the points are the vertices, and the edges that the stretches run along are the edges, with the curves of their pieces; the stretch below a vertex is one of these, and its edge is the highest below the vertex (this project)
pub record IsTraceOf (p : Present) (t : Trace) : Type 0 where
  pub points : t.points ≡ vertices p
  pub edges : map (edge_between t.points) (ascending ends_cmp (map ends_of t.stretches)) ≡ edges (graph p)
  pub marks : ascending mark_cmp (map (mark_along p t.points) t.stretches) ≡ (graph p).marks
  pub nothing : (k : ℕ) → k < length t.points → slice_index_or t.below k None ≡ None → IsHighestBelow (Contains (skeleton (graph p)).edges) (point_at t.points k) None
  pub paired : length t.below ≡ length t.points
  pub closed : AreClosed t
  pub something : (k : ℕ) (o : OpenStretch) (s : Stretch) → k < length t.points → slice_index_or t.below k None ≡ Some o → Member s t.stretches → IsOpened o s → IsHighestBelow (Contains (skeleton (graph p)).edges) (point_at t.points k) (Some (edge_between t.points (ends_of s)))

-- of the spans and pins of a fit present
abbrev pub TracesAreGraphs : Type 0
TracesAreGraphs = (p : Present) (t : Trace) → IsFit p → AreSpans (map span_of_piece p.pieces) → ((r : Point) → Member r p.pins → IsPoint r) → IsTrace (map span_of_piece p.pieces) p.pins t → IsTraceOf p t

-- the edges that are told below vertices are the highest of those below (this project)
abbrev pub EdgesBelowAreHighest : Type 0
EdgesBelowAreHighest = (p : Present) (t : Trace) (es : List (Option EdgeEnds)) → IsTraceOf p t → AreEdgesUnder t es → (k : ℕ) → k < length t.points → IsHighestBelow (Contains (skeleton (graph p)).edges) (point_at t.points k) (option_map (edge_between t.points) (slice_index_or es k None))
