-- The rows of a subdivision by the graph of a present: marks by stretches, kinds and ranks by roots, and the whole.
use Rattle.std.proofs.Common.{◌≡◌, ℕ, ◌<◌, true, arith, refl, sym, ap, ap₂, ◌∙◌, subst, inl, inr, List, length, map, get_or, nat_cmp, Less, Result, Ok, Err}
use Rattle.std.specs.List.{list_any}
use Rattle.std.specs.List.Sorted.{IsBinarySearchResult, IsSearchInRange}
use Rattle.std.specs.Ordering.{ordering_then}
use Rattle.std.specs.Result.{is_ok}
use Rattle.std.proofs.lemmas.Bool.{false_from_ne_true}
use Rattle.std.proofs.lemmas.List.{ext_get_or, get_or-map, length-map}
use Rattle.integers.proofs.Tests.{less_nat}
use Rattle.exact_plane.specs.Point.{Point}
use Rattle.exact_plane.specs.PointOrder.{point_cmp}
use Rattle.exact_plane.specs.PointOrderLaws.{point_cmp_total, same_point as point_cmp_exact}
use Rattle.plane_graphs.specs.Ascending.{Member, IsAscending, ascending}
use Rattle.plane_graphs.specs.Fit.{IsFit}
use Rattle.plane_graphs.specs.Graph.{Graph, graph, edges, mark_cmp}
use Rattle.plane_graphs.proofs.Lines.{line_is_proper}
use Rattle.plane_graphs.specs.Piece.{Present}
use Rattle.plane_graphs.specs.Plane.{IsPlane}
use Rattle.plane_graphs.proofs.Ascending.{ascending_is, Member-ascending, ascending-Member, IsAscending-ascending, IsAscending-map, from_member}
use Rattle.plane_graphs.proofs.Laws.{graph_is_plane}
use Rattle.plane_graphs.proofs.Lists.{in_map, of_map, map_map, any_in, any_out}
use Rattle.plane_graphs.proofs.Order.{mark_cmp_total, mark_cmp_exact}
use Rattle.plane_graphs.proofs.Sorting.{rises, member_at}
use Rattle.present_graphs.specs.Spans.{span_of_piece, AreSpans}
use Rattle.slab_laws.specs.declared.names.CycleKind.{CycleKind}
use Rattle.slab_laws.specs.declared.rows.CycleRow.{CycleRow}
use Rattle.slab_laws.specs.Cycles.{dart_labels, odd, left_of_dart}
use Rattle.slab_laws.specs.Darts.{Dart, darts}
use Rattle.slab_laws.specs.Kinds.{kind_by}
use Rattle.slab_laws.specs.Overlay.{plane_of}
use Rattle.slab_laws.specs.Rows.{no_dart, lead_list, dart_rows, twin_places, next_places, cycle_places, cycle_row, cycle_rows}
use Rattle.slab_laws.specs.Skeleton.{Skeleton, IsPlaneSkeleton, same_point}
use Rattle.slab_laws.specs.SpansDrawn.{edge_of}
use Rattle.slab_laws.specs.Subdivision.{Cycle, subdivision, rank}
use Rattle.slab_laws.specs.Text.{skeleton}
use Rattle.dart_orbits.proofs.SearchedLists.{absent}
use Rattle.slab_faces.proofs.Places.{points_exact}
use Rattle.sound_views.proofs.RankedFaces.{cycle_of, cycles_are, outer_is, face_is}
use Rattle.face_changes.specs.Kinds.{is_outer}
use Rattle.face_roots.specs.declared.ranks.Root.{Root}
use Rattle.face_roots.specs.declared.ranks.Root.TheVariants.{Outer, Outside, Above}
use Rattle.face_roots.specs.CycleRanks.{root_at, is_outer_root, lead_at, IsRootOf, AreRootsOf}
use Rattle.sweep_graphs.specs.declared.trace.Stretch.{Stretch}
use Rattle.sweep_graphs.specs.Edges.{stretch_cmp, curve_at, mark_along}
use Rattle.sweep_graphs.specs.Traces.{point_at, no_point}
use Rattle.sweep_graphs.proofs.EdgeOrders.{one_point, stretch_cmp_total, stretch_cmp_exact}
use Rattle.subdivision_rows.specs.RowsInMemory.{drawing_of, AreSoundRows}
use Rattle.subdivision_rows.specs.declared.lists.RowLists.{RowLists}
use Rattle.subdivision_rows.proofs.SpanLines.{lines_by_spans}
use Rattle.overlay_sweep.specs.CycleFaces.{AreCycleRanks, rank_round}
use Rattle.overlay_sweep.specs.GraphRows.{kind_of_root, AreNumberedByPlace, IsWithin, AreWithin}
use Rattle.overlay_sweep.specs.LayerGraphs.{IsLayerGraph}
use Rattle.overlay_sweep.specs.declared.graphs.LayerGraph.{LayerGraph}
use Rattle.overlay_sweep.proofs.EdgeCycles.{own_lead}
use Rattle.integers.proofs.Classes.{then_less}

-- ---- marks
-- along points that ascend, and pieces that are numbered by their places, marks keep the order of stretches
module _ (p : Present) (own : AreNumberedByPlace p) (points : List Point) (up : IsAscending point_cmp points) where
  marks_rise : (s t : Stretch) → IsWithin p points s → IsWithin p points t → stretch_cmp s t ≡ Less → mark_cmp (mark_along p points s) (mark_along p points t) ≡ Less
  unfolding mark_cmp
  marks_rise s t S T h =
      let curves = nat_cmp (curve_at p s.piece) (curve_at p t.piece) in
      let by_curves : curves ≡ nat_cmp s.piece t.piece = ap₂ nat_cmp (own s.piece S.piece) (own t.piece T.piece) in
      elim (then_less (nat_cmp s.low t.low) (ordering_then (nat_cmp s.high t.high) (nat_cmp s.piece t.piece)) h) [
        | inl a ↦ ap (λ o. ordering_then o (ordering_then (point_cmp (point_at points s.high) (point_at points t.high)) curves)) (rises point_cmp points up s.low t.low no_point (less_nat s.low t.low a) T.low)
        | inr a ↦ ap₂ ordering_then (one_point points s.low t.low a.0) (elim (then_less (nat_cmp s.high t.high) (nat_cmp s.piece t.piece) a.1) [
          | inl b ↦ ap (λ o. ordering_then o curves) (rises point_cmp points up s.high t.high no_point (less_nat s.high t.high b) T.high)
          | inr b ↦ ap₂ ordering_then (one_point points s.high t.high b.0) (by_curves ∙ b.1)
        ])
      ]

module _ (p : Present) (g : LayerGraph) (h : IsLayerGraph p g) where
  within : (s : Stretch) → Member s g.trace.stretches → IsWithin p g.trace.points s
  within s m =
      let k = h.trace.sound s m in
      record { low = k.low_in; high = k.high_in; piece = (let n = length-map p.pieces span_of_piece in let l = k.step.within in omega arith) }

  in_trace : (s : Stretch) → Member s (ascending stretch_cmp g.trace.stretches) → Member s g.trace.stretches
  in_trace s m = Member-ascending stretch_cmp stretch_cmp_total s g.trace.stretches m

  pub stretches_within : AreWithin p g.trace.points g.stretches.items
  stretches_within s m = within s (in_trace s (subst (Member s) h.stretches m))

  pub marks_are : AreNumberedByPlace p → map (mark_along p g.trace.points) g.stretches.items ≡ (graph p).marks
  marks_are own =
      let ss = g.trace.stretches in
      let listed = ascending stretch_cmp ss in
      let f = mark_along p g.trace.points in
      ap (map f) h.stretches
      ∙ ascending_is mark_cmp mark_cmp_total (map f ss) (map f listed) (λ x y _ _ q. mark_cmp_exact x y q)
      (IsAscending-map stretch_cmp mark_cmp f listed (λ s t m n l. marks_rise p own g.trace.points h.trace.ascends s t (within s (in_trace s m)) (within t (in_trace t n)) l) (IsAscending-ascending stretch_cmp stretch_cmp_total ss))
      (λ x m. let s = of_map f x listed m in subst (λ y. Member y (map f ss)) (sym s.2) (in_map f s.0 ss (in_trace s.0 s.1)))
      (λ x m.
      let s = of_map f x ss m in
      subst (λ y. Member y (map f listed)) (sym s.2) (in_map f s.0 listed (ascending-Member stretch_cmp stretch_cmp_total s.0 ss (λ x y _ _ q. stretch_cmp_exact x y q) s.1)))
      ∙ h.graph.marks

  pub points_are : g.trace.points ≡ (graph p).points
  points_are = ap (λ (s : Skeleton). s.vertices) h.drawn_is

  pub spans_are : map edge_of g.spans.items ≡ edges (graph p)
  spans_are = ap (λ (s : Skeleton). s.edges) h.drawn_is

-- ---- pins
pub among_told : (ps : List Point) (x : Point) (r : Result ℕ ℕ) → IsAscending point_cmp ps → IsSearchInRange r (length ps) → IsBinarySearchResult (λ y. point_cmp y x) ps r → is_ok r ≡ list_any (same_point x) ps
among_told ps x (Ok i) up l s = sym (any_in (same_point x) (get_or ps i x) ps (member_at ps i x l) (subst (λ y. same_point x y ≡ true) (sym (point_cmp_exact (get_or ps i x) x (s x))) (points_exact.itself x)))
among_told ps x (Err i) up l s = sym (false_from_ne_true _ (λ t.
    let y = any_out (same_point x) ps t in
    absent point_cmp point_cmp_total x ps i up s (from_member ps x (subst (λ z. Member z ps) (sym (points_exact.path x y.0 y.2)) y.1))))

-- ---- cycles
module _ (g : Skeleton) where
  pub ranks_are : (ranks : List ℕ) → AreCycleRanks g ranks → ranks ≡ map (λ c. rank (subdivision g) c.face) (subdivision g).cycles
  ranks_are ranks are =
      let s = subdivision g in
      let ls = lead_list g in
      let f : Dart → ℕ = λ l. rank s (cycle_of g l).face in
      ext_get_or 0 ranks (map f ls) (are.counted ∙ sym (length-map ls f)) (λ c i.
      let m : c < length ls = (let n = are.counted in omega arith) in
      are.each c m ∙ ap (rank s) (sym (face_is g (lead_at g c))) ∙ sym (get_or-map f ls c no_dart 0 m))
      ∙ sym (ap (map (λ (c : Cycle). rank s c.face)) (cycles_are g) ∙ map_map (cycle_of g) (λ (c : Cycle). rank s c.face) ls)

  module _ (plane : IsPlaneSkeleton g) where
    lead_kind : (l : Dart) → Member l (lead_list g) → (cycle_of g l).outer ≡ is_outer g l
    lead_kind l m = outer_is g l ∙ sym (ap (λ z. odd g (dart_labels (darts g)) z (left_of_dart g l)) (own_lead g plane l m))

    root_kind : (c : ℕ) → Member (lead_at g c) (lead_list g) → (r : Root) → IsRootOf g c r → is_outer_root r ≡ (cycle_of g (lead_at g c)).outer
    root_kind c m Outer h = sym (lead_kind (lead_at g c) m ∙ h)
    root_kind c m Outside h = sym (lead_kind (lead_at g c) m ∙ h.0)
    root_kind c m (Above k) h = sym (lead_kind (lead_at g c) m ∙ h.0)

    pub kinds_are : (roots : List Root) → AreRootsOf g roots → map kind_of_root roots ≡ map (λ (c : CycleRow). c.kind) (cycle_rows g)
    unfolding cycle_rows
    kinds_are roots are =
        let ls = lead_list g in
        let f : Dart → CycleKind = λ l. kind_by (cycle_of g l).outer in
        let counted = are.counted in
        let n = length-map roots kind_of_root in
        ext_get_or (kind_by true) (map kind_of_root roots) (map f ls) (n ∙ counted ∙ sym (length-map ls f)) (λ c i.
        let l : c < length roots = omega arith in
        let m : c < length ls = omega arith in
        get_or-map kind_of_root roots c Outside (kind_by true) l
        ∙ ap kind_by (root_kind c (member_at ls c no_dart m) (root_at roots c) (are.each c l))
        ∙ sym (get_or-map f ls c no_dart (kind_by true) m))
        ∙ sym (map_map (cycle_row g) (λ (c : CycleRow). c.kind) (subdivision g).cycles ∙ ap (map (λ (c : Cycle). kind_by c.outer)) (cycles_are g) ∙ map_map (cycle_of g) (λ (c : Cycle). kind_by c.outer) ls)

-- ---- the whole
-- the lists are those of the present's graph
pub record AreRowsBy (p : Present) (a : RowLists) : Type 0 where
  pub graph_is : (drawing_of a).graph ≡ graph p
  pub spans : AreSpans a.edges.items
  pub edges_are : map edge_of a.edges.items ≡ edges (graph p)
  pub pinned : a.pinned.items ≡ map (λ r. list_any (same_point r) p.pins) (graph p).points
  pub darts : a.darts.items ≡ dart_rows (plane_of p)
  pub twins : a.twins.items ≡ twin_places (plane_of p)
  pub nexts : a.nexts.items ≡ next_places (plane_of p)
  pub in_cycles : a.in_cycles.items ≡ cycle_places (plane_of p)
  pub kinds : a.kinds.items ≡ map (λ (c : CycleRow). c.kind) (cycle_rows (plane_of p))
  pub cycle_ranks : a.cycle_ranks.items ≡ map (λ c. rank (subdivision (plane_of p)) c.face) (subdivision (plane_of p)).cycles
  pub bare_ranks : a.bare_ranks.items ≡ map (rank_round (plane_of p)) (graph p).points
  pub faces : a.faces ≡ length (subdivision (plane_of p)).faces

pub pins_kept : (p : Present) → (graph p).pins ≡ p.pins
unfolding graph
pins_kept p = refl

pub sound_rows : (p : Present) (a : RowLists) → IsFit p → AreRowsBy p a → AreSoundRows a
sound_rows p a fit h =
    let q : graph p ≡ (drawing_of a).graph = sym h.graph_is in
    record {
      plane = subst IsPlane q (graph_is_plane p fit);
      lines = lines_by_spans (drawing_of a).graph a.edges.items (h.edges_are ∙ ap edges q) (λ s m. let k = h.spans s m in record { is_line = line_is_proper s.line k.line; lower_on = k.way.lower_on; upper_on = k.way.upper_on });
      pinned = h.pinned ∙ (λ i. map (λ r. list_any (same_point r) (sym (pins_kept p) i)) (graph p).points) ∙ (λ i. map (λ r. list_any (same_point r) (q i).pins) (q i).points);
      edges_are = h.edges_are ∙ ap edges q;
      darts = h.darts ∙ ap (λ (g : Graph). dart_rows (skeleton g)) q;
      twins = h.twins ∙ ap (λ (g : Graph). twin_places (skeleton g)) q;
      nexts = h.nexts ∙ ap (λ (g : Graph). next_places (skeleton g)) q;
      in_cycles = h.in_cycles ∙ ap (λ (g : Graph). cycle_places (skeleton g)) q;
      kinds = h.kinds ∙ ap (λ (g : Graph). map (λ (c : CycleRow). c.kind) (cycle_rows (skeleton g))) q;
      cycle_ranks = h.cycle_ranks ∙ ap (λ (g : Graph). map (λ (c : Cycle). rank (subdivision (skeleton g)) c.face) (subdivision (skeleton g)).cycles) q;
      bare_ranks = h.bare_ranks ∙ ap (λ (g : Graph). map (rank_round (skeleton g)) g.points) q;
      faces = h.faces ∙ ap (λ (g : Graph). length (subdivision (skeleton g)).faces) q;
    }
