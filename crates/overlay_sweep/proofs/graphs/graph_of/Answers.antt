use Rattle.std.proofs.Common.{map, sym, ap, ◌∙◌, subst}
use Rattle.plane_graphs.specs.Ascending.{IsAscending, ascending}
use Rattle.plane_graphs.proofs.Ascending.{IsAscending-ascending}
use Rattle.exact_plane.specs.PointOrder.{point_cmp}
use Rattle.present_graphs.specs.Spans.{span_of_piece, AreFit, AreSpans}
use Rattle.slab_laws.specs.Pieces.{piece_of, present_of}
use Rattle.slab_laws.specs.Skeleton.{Skeleton, IsPlaneSkeleton}
use Rattle.slab_laws.specs.SpansDrawn.{drawn, edge_of}
use Rattle.overlay_laws.proofs.Labels.{plane_by}
use Rattle.face_roots.specs.CycleRanks.{AreRankedBy, AreRootsOf}
use Rattle.sweep_graphs.specs.Edges.{stretch_cmp, edge_between}
use Rattle.sweep_graphs.proofs.EdgeOrders.{stretch_cmp_total}
use Rattle.dart_orbits.specs.Orbits.{AreOrbits}
use Rattle.overlay_sweep.specs.CycleFaces.{AreCycleRanks}
use Rattle.overlay_sweep.specs.EdgesUnder.{AreUnder}
use Rattle.overlay_sweep.proofs.TracedEdges.{along_some, on_lines, edges_are, drawn_is}
use Rattle.overlay_sweep.proofs.RowsAhead.{edges_told, ahead_is}
use Rattle.overlay_sweep.proofs.UnderTraces.{under_traces}
use Rattle.overlay_sweep.proofs.graphs.graph_of.Goals as goal

pub spans_of-requires : goal.spans_of-requires
spans_of-requires c = subst (λ ks. AreFit (map piece_of ks)) (sym c.as_slice.ensures) c.requires.piece

pub trace_of_present-requires-clause-pieces : goal.trace_of_present-requires-clause-pieces
trace_of_present-requires-clause-pieces c = c.deref.ensures.value ∙ c.in_ok-pieces.ensures.items ∙ ap (λ ks. map span_of_piece (map piece_of ks)) c.as_slice.ensures

pub trace_of_present-requires-clause-spans : goal.trace_of_present-requires-clause-spans
trace_of_present-requires-clause-spans c = subst AreSpans (sym c.deref.ensures.value) c.in_ok-pieces.ensures.spans

pub spans_along-requires-clause-ascend : goal.spans_along-requires-clause-ascend
spans_along-requires-clause-ascend c =
    let t = c.in_ok-trace.trace in
    subst (IsAscending stretch_cmp) (sym (c.deref-4.ensures.value ∙ c.in_ok-stretches.ensures ∙ ap (ascending stretch_cmp) c.as_slice-2.ensures)) (IsAscending-ascending stretch_cmp stretch_cmp_total t.stretches)

pub spans_along-requires-clause-lines : goal.spans_along-requires-clause-lines
spans_along-requires-clause-lines c =
    on_lines (present_of c.args.present.now) c.in_ok-trace.trace c.in_ok-trace.ensures.trace c.deref-3.result.now c.as_slice-points.result.now c.deref-4.result.now
    (c.deref-3.ensures.value ∙ c.in_ok-pieces.ensures.items ∙ ap (λ ks. map span_of_piece (map piece_of ks)) c.as_slice.ensures)
    c.as_slice-points.ensures
    (c.deref-4.ensures.value ∙ c.in_ok-stretches.ensures ∙ ap (ascending stretch_cmp) c.as_slice-2.ensures)

pub spans_along-requires-clause-along : goal.spans_along-requires-clause-along
spans_along-requires-clause-along c =
    let t = c.in_ok-trace.trace in
    along_some t.stretches c.deref-4.result.now c.deref-5.result.now
    (c.deref-4.ensures.value ∙ c.in_ok-stretches.ensures ∙ ap (ascending stretch_cmp) c.as_slice-2.ensures)
    (c.deref-5.ensures.value ∙ edges_told c.in_ok-trace.trace.stretches c.deref-2.result.now c.in_ok-edges.edges.items (c.deref-2.ensures.value ∙ c.in_ok-stretches.ensures ∙ ap (ascending stretch_cmp) c.as_slice-2.ensures) c.in_ok-edges.ensures)

pub edges_below-requires : goal.edges_below-requires
edges_below-requires c = c.in_ok-trace.ensures.graph.closed

pub orbits_of-requires-clause-plane : goal.orbits_of-requires-clause-plane
orbits_of-requires-clause-plane c =
    let p = present_of c.args.present.now in
    let all = c.deref-5.ensures.value ∙ edges_told c.in_ok-trace.trace.stretches c.deref-2.result.now c.in_ok-edges.edges.items (c.deref-2.ensures.value ∙ c.in_ok-stretches.ensures ∙ ap (ascending stretch_cmp) c.as_slice-2.ensures) c.in_ok-edges.ensures in
    let is = drawn_is p c.in_ok-trace.trace c.in_ok-trace.ensures.graph c.as_slice-points.result.now c.deref-7.result.now c.deref-5.result.now c.as_slice-points.ensures (ap (map edge_of) c.deref-7.ensures.value ∙ c.in_ok-spans.ensures) all in
    subst IsPlaneSkeleton (sym is) (plane_by p c.requires)

pub orbits_of-requires-clause-ascend : goal.orbits_of-requires-clause-ascend
orbits_of-requires-clause-ascend c = subst (IsAscending point_cmp) (sym c.as_slice-points.ensures) c.in_ok-trace.ensures.trace.ascends

pub orbits_of-requires-clause-ahead : goal.orbits_of-requires-clause-ahead
orbits_of-requires-clause-ahead c =
    let p = present_of c.args.present.now in
    let points = c.as_slice-points.result.now in
    let all = c.deref-6.ensures.value ∙ edges_told c.in_ok-trace.trace.stretches c.deref-2.result.now c.in_ok-edges.edges.items (c.deref-2.ensures.value ∙ c.in_ok-stretches.ensures ∙ ap (ascending stretch_cmp) c.as_slice-2.ensures) c.in_ok-edges.ensures in
    let told = ap (map edge_of) c.deref-7.ensures.value ∙ c.in_ok-spans.ensures ∙ ap (map (edge_between points)) (c.deref-5.ensures.value ∙ sym c.deref-6.ensures.value) in
    c.deref-8.ensures.value ∙ c.in_ok-ahead.ensures
    ∙ ahead_is p c.in_ok-trace.trace c.requires c.in_ok-trace.ensures.trace c.in_ok-trace.ensures.graph points c.deref-7.result.now c.deref-6.result.now c.as_slice-points.ensures told all

pub roots_of-requires-clause-plane : goal.roots_of-requires-clause-plane
roots_of-requires-clause-plane c =
    let p = present_of c.args.present.now in
    let all = c.deref-5.ensures.value ∙ edges_told c.in_ok-trace.trace.stretches c.deref-2.result.now c.in_ok-edges.edges.items (c.deref-2.ensures.value ∙ c.in_ok-stretches.ensures ∙ ap (ascending stretch_cmp) c.as_slice-2.ensures) c.in_ok-edges.ensures in
    let is = drawn_is p c.in_ok-trace.trace c.in_ok-trace.ensures.graph c.as_slice-points.result.now c.deref-9.result.now c.deref-5.result.now c.as_slice-points.ensures (ap (map edge_of) c.deref-9.ensures.value ∙ c.in_ok-spans.ensures) all in
    subst IsPlaneSkeleton (sym is) (plane_by p c.requires)

pub roots_of-requires-clause-ascend : goal.roots_of-requires-clause-ascend
roots_of-requires-clause-ascend c = subst (IsAscending point_cmp) (sym c.as_slice-points.ensures) c.in_ok-trace.ensures.trace.ascends

pub roots_of-requires-clause-orbits : goal.roots_of-requires-clause-orbits
roots_of-requires-clause-orbits c =
    subst (λ (g : Skeleton). AreOrbits g c.in_ok-orbits.orbits) (ap (drawn c.as_slice-points.result.now) (c.deref-7.ensures.value ∙ sym c.deref-9.ensures.value)) c.in_ok-orbits.ensures

pub roots_of-requires-clause-below : goal.roots_of-requires-clause-below
roots_of-requires-clause-below c =
    let p = present_of c.args.present.now in
    let points = c.as_slice-points.result.now in
    let all = c.deref-5.ensures.value ∙ edges_told c.in_ok-trace.trace.stretches c.deref-2.result.now c.in_ok-edges.edges.items (c.deref-2.ensures.value ∙ c.in_ok-stretches.ensures ∙ ap (ascending stretch_cmp) c.as_slice-2.ensures) c.in_ok-edges.ensures in
    let are = edges_are p c.in_ok-trace.trace c.in_ok-trace.ensures.graph points c.deref-9.result.now c.deref-5.result.now c.as_slice-points.ensures (ap (map edge_of) c.deref-9.ensures.value ∙ c.in_ok-spans.ensures) all in
    subst (AreUnder (drawn points c.deref-9.result.now)) (sym c.deref-10.ensures.value)
    (under_traces p c.in_ok-trace.trace c.in_ok-below.below.items points c.deref-9.result.now c.in_ok-trace.ensures.graph c.in_ok-below.ensures c.as_slice-points.ensures are)

pub cycle_ranks-requires-clause-plane : goal.cycle_ranks-requires-clause-plane
cycle_ranks-requires-clause-plane c =
    let p = present_of c.args.present.now in
    let all = c.deref-5.ensures.value ∙ edges_told c.in_ok-trace.trace.stretches c.deref-2.result.now c.in_ok-edges.edges.items (c.deref-2.ensures.value ∙ c.in_ok-stretches.ensures ∙ ap (ascending stretch_cmp) c.as_slice-2.ensures) c.in_ok-edges.ensures in
    let is = drawn_is p c.in_ok-trace.trace c.in_ok-trace.ensures.graph c.as_slice-points.result.now c.deref-11.result.now c.deref-5.result.now c.as_slice-points.ensures (ap (map edge_of) c.deref-11.ensures.value ∙ c.in_ok-spans.ensures) all in
    subst IsPlaneSkeleton (sym is) (plane_by p c.requires)

pub cycle_ranks-requires-clause-roots : goal.cycle_ranks-requires-clause-roots
cycle_ranks-requires-clause-roots c =
    let points = c.as_slice-points.result.now in
    subst (AreRootsOf (drawn points c.deref-11.result.now)) (sym c.deref-12.ensures.value)
    (subst (λ (g : Skeleton). AreRootsOf g c.in_ok-roots.roots.items) (ap (drawn points) (c.deref-9.ensures.value ∙ sym c.deref-11.ensures.value)) c.in_ok-roots.ensures)

pub returns : goal.returns
returns c =
    let p = present_of c.args.present.now in
    let t = c.in_ok-trace.trace in
    let g = c.in_ok-trace.ensures.graph in
    let points = c.as_slice-points.result.now in
    let spans = c.in_ok-spans.spans.items in
    let all = c.deref-5.ensures.value ∙ edges_told c.in_ok-trace.trace.stretches c.deref-2.result.now c.in_ok-edges.edges.items (c.deref-2.ensures.value ∙ c.in_ok-stretches.ensures ∙ ap (ascending stretch_cmp) c.as_slice-2.ensures) c.in_ok-edges.ensures in
    let is = drawn_is p t g points spans c.deref-5.result.now c.as_slice-points.ensures c.in_ok-spans.ensures all in
    let are = edges_are p t g points spans c.deref-5.result.now c.as_slice-points.ensures c.in_ok-spans.ensures all in
    record {
      trace = c.in_ok-trace.ensures.trace;
      graph = g;
      stretches = c.in_ok-stretches.ensures ∙ ap (ascending stretch_cmp) c.as_slice-2.ensures;
      edges = edges_told c.in_ok-trace.trace.stretches c.deref-2.result.now c.in_ok-edges.edges.items (c.deref-2.ensures.value ∙ c.in_ok-stretches.ensures ∙ ap (ascending stretch_cmp) c.as_slice-2.ensures) c.in_ok-edges.ensures;
      drawn_is = (λ i. drawn (sym c.as_slice-points.ensures i) spans) ∙ is;
      below = subst (λ (s : Skeleton). AreUnder s c.in_ok-below.below.items) is (under_traces p t c.in_ok-below.below.items points spans g c.in_ok-below.ensures c.as_slice-points.ensures are);
      orbits = subst (λ (s : Skeleton). AreOrbits s c.in_ok-orbits.orbits) (ap (drawn points) c.deref-7.ensures.value ∙ is) c.in_ok-orbits.ensures;
      roots = subst (λ (s : Skeleton). AreRootsOf s c.in_ok-roots.roots.items) (ap (drawn points) c.deref-9.ensures.value ∙ is) c.in_ok-roots.ensures;
      ranks = subst (λ (s : Skeleton). AreCycleRanks s c.in_ok-ranks.ranks.items) (ap (drawn points) c.deref-11.ensures.value ∙ is) c.in_ok-ranks.ensures.ranks;
      ranked = subst (λ rs. AreRankedBy rs c.in_ok-ranks.ranks.items) c.deref-12.ensures.value c.in_ok-ranks.ensures.ranked;
    }
