-- What a sweep tells below the vertices of a present is what the roots of cycles are told by.
use Rattle.std.proofs.Common.{◌≡◌, ◌<◌, List, map, length, ap, sym, ◌∙◌, subst, Contains}
use Rattle.std.specs.Prelude.{Option, None, slice_index_or}
use Rattle.std.specs.Option.{option_map}
use Rattle.exact_plane.specs.Point.{Point}
use Rattle.exact_plane.specs.Span.{Span}
use Rattle.plane_graphs.specs.Graph.{Edge, graph}
use Rattle.plane_graphs.specs.Piece.{Present}
use Rattle.slab_laws.specs.SpansDrawn.{drawn, edge_of}
use Rattle.slab_laws.specs.Text.{skeleton}
use Rattle.edge_predicates.specs.Highest.{IsHighestBelow}
use Rattle.sweep_graphs.specs.declared.edges.EdgeEnds.{EdgeEnds}
use Rattle.sweep_graphs.specs.declared.trace.Trace.{Trace}
use Rattle.sweep_graphs.specs.Edges.{edge_between}
use Rattle.sweep_graphs.specs.EdgesBelow.{AreEdgesUnder}
use Rattle.sweep_graphs.specs.TraceLaws.{IsTraceOf}
use Rattle.sweep_graphs.specs.Traces.{point_at}
use Rattle.sweep_graphs.proofs.TraceGraph.{edges_below_are_highest}
use Rattle.overlay_sweep.specs.EdgesUnder.{AreUnder}

pub under_traces : (p : Present) (t : Trace) (es : List (Option EdgeEnds)) (points : List Point) (edges : List Span) → IsTraceOf p t → AreEdgesUnder t es → points ≡ t.points → map edge_of edges ≡ (skeleton (graph p)).edges → AreUnder (drawn points edges) es
under_traces p t es points edges h u e f = record {
  counted = u.counted ∙ h.paired ∙ ap length (sym e);
  highest = λ k l.
      subst (λ xs. IsHighestBelow (Contains (map edge_of edges)) (point_at xs k) (option_map (edge_between xs) (slice_index_or es k None))) (sym e)
      (subst (λ (xs : List Edge). IsHighestBelow (Contains xs) (point_at t.points k) (option_map (edge_between t.points) (slice_index_or es k None))) (sym f) (edges_below_are_highest p t es h u k (subst (λ xs. k < length xs) e l)));
}
