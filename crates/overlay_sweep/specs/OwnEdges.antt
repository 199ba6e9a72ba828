-- A layer's own edges, each with its line and the rank of the face above it.
use Rattle.std.specs.Prelude.{◌≡◌, ◌<◌, ℕ, pos, List, length, cond, slice_index_or, slice_set, Option, None, Some}
use Rattle.std.specs.List.{Contains}
use Rattle.std.specs.Ordering.{ordering_then}
use Rattle.std.specs.declared.cmp.Ordering.{Ordering}
use Rattle.std.specs.declared.cmp.Ordering.TheVariants.{Equal}
use Rattle.exact_plane.specs.PointOrder.{point_cmp}
use Rattle.exact_plane.specs.Slope.{rise_cmp}
use Rattle.exact_plane.specs.Span.{Span}
use Rattle.plane_graphs.specs.Ascending.{Member}
use Rattle.plane_graphs.specs.Graph.{Edge}
use Rattle.plane_graphs.specs.Line.{same_point}
use Rattle.plane_graphs.specs.Piece.{Present}
use Rattle.slab_laws.specs.Darts.{ahead}
use Rattle.slab_laws.specs.Overlay.{plane_of}
use Rattle.slab_laws.specs.SpansDrawn.{edge_of}
use Rattle.overlay_sweep.specs.declared.own.OwnEdge.{OwnEdge}
use Rattle.overlay_sweep.specs.LayerLabels.{rank_beside}

-- the list has the edges of the layer's graph, in any order, each with the rank of the face above it (CGAL manual: the face incident to a halfedge)
pub record AreOwnEdges (p : Present) (ks : List OwnEdge) : Type 0 where
  pub own : (k : OwnEdge) → Member k ks → Contains (plane_of p).edges (edge_of k.span)
  pub all : (e : Edge) → Contains (plane_of p).edges e → (k : OwnEdge) × Member k ks × (edge_of k.span ≡ e)
  pub over : (k : OwnEdge) → Member k ks → k.over ≡ rank_beside (plane_of p) (ahead (edge_of k.span))

-- by lower ends, those of one lower end by slope (Fogel, Halperin and Wein: the curves that start at an event, from bottom to top)
abbrev pub begin_cmp : OwnEdge → OwnEdge → Ordering
begin_cmp k l = ordering_then (point_cmp k.span.lower l.span.lower) (rise_cmp k.span.line l.span.line)

-- a part of a line as an edge that stands where it begins
abbrev pub bar_at : Span → OwnEdge
bar_at s = record { span = s; over = 0 }

-- what stands where no edge does
abbrev pub no_own : OwnEdge
no_own = record {
  span = record { lower = record { x = pos 0; y = pos 0; w = pos 0 }; upper = record { x = pos 0; y = pos 0; w = pos 0 }; line = record { a = pos 0; b = pos 0; c = pos 0 } };
  over = 0;
}

-- the edge at a place
abbrev pub own_at : List OwnEdge → ℕ → OwnEdge
own_at ks i = slice_index_or ks i no_own

-- the place of the own edge that passes a vertex, where one is noted
abbrev pub passed_at : List (Option ℕ) → ℕ → Option ℕ
passed_at passing v = slice_index_or passing v None

-- the own edge at i passes the vertex where a part of it begins, as is noted, or else it begins there
abbrev pub IsOwnFrom : List OwnEdge → Option ℕ → Span → ℕ → Type 0
IsOwnFrom ks (Some j) s i = i ≡ j
IsOwnFrom ks None s i = begin_cmp (own_at ks i) (bar_at s) ≡ Equal

-- so there is one
abbrev pub HasOwnFrom : List OwnEdge → Option ℕ → Span → Type 0
HasOwnFrom ks (Some j) s = j < length ks
HasOwnFrom ks None s = (k : OwnEdge) × Member k ks × (begin_cmp k (bar_at s) ≡ Equal)

-- the vertex v where a part of the own edge at i ends is noted, unless the edge ends there, too
abbrev pub passing_with : List OwnEdge → List (Option ℕ) → ℕ → Span → ℕ → List (Option ℕ)
passing_with ks passing v s i = cond (same_point (own_at ks i).span.upper s.upper) passing (slice_set passing v (Some i))

-- what is told of a part of the whole from the vertex low to the vertex high: nothing, where no piece of the layer runs along it; else the rank above the own edge that it lies on
abbrev pub IsTold : List OwnEdge → List (Option ℕ) → List (Option ℕ) → ℕ → ℕ → Span → Option ℕ → Option ℕ → Type 0
IsTold ks old new low high s None r = (new ≡ old) × (r ≡ None)
IsTold ks old new low high s (Some piece) r = (i : ℕ) × (i < length ks) × IsOwnFrom ks (passed_at old low) s i × (new ≡ passing_with ks old high s i) × (r ≡ Some (own_at ks i).over)
