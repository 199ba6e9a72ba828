-- The layer's cell that holds a cell of the overlay, as it is counted.
use Rattle.std.proofs.Common.{◌≡◌, ℕ, Bool, true, false, cond, refl, sym, ap, ◌∙◌, subst, List, map}
use Rattle.std.specs.Prelude.{◌&&◌, filter}
use Rattle.std.specs.List.{count_by, Contains}
use lib.Dec.{ltb, leb}
use Rattle.exact_plane.specs.Point.{Point}
use Rattle.exact_plane.specs.Span.{Span}
use Rattle.plane_graphs.specs.Graph.{Edge}
use Rattle.plane_graphs.specs.Piece.{Present}
use Rattle.slab_laws.specs.declared.slab_cell.SlabCell.{SlabCell}
use Rattle.slab_laws.specs.SpansDrawn.{edge_of, drawn}
use Rattle.slab_laws.specs.Skeleton.{Skeleton, IsPlaneSkeleton, left_of, below}
use Rattle.slab_laws.specs.Slabs.{spans, place}
use Rattle.slab_faces.proofs.Member.{member_in, in_member, map_in, map_out, filter_out}
use Rattle.slab_faces.proofs.Shift.{sum_by-map}
use Rattle.plain_slabs.specs.PlaceTables.{reach_in, table}
use Rattle.plain_slabs.proofs.Reached.{none_vertical}
use Rattle.plain_slabs.proofs.ChosenCounts.{count_filtered}
use Rattle.slab_laws.specs.Overlay.{plane_of, has_curve_along, cell_in}
use Rattle.plain_slabs.specs.declared.layer_cells.LayerEdge.{LayerEdge}
use Rattle.plain_slabs.specs.LayerEdges.{slab_beside, layer_edge, is_across, AreSlanted, AreSlantedAcross, count_below, count_layer, cell_among}

-- ---- no vertical edges
pub none_among : (es : List LayerEdge) (i : ℕ) (qs : List LayerEdge) → AreSlantedAcross es → qs ≡ filter (is_across i) es → AreSlanted qs
none_among es i qs v e = record {
  slanted = λ r q.
      let m = filter_out (is_across i) es r (in_member _ r (subst (λ l. Contains l r) e q)) in
      v.slanted i r (member_in es r m.0) m.1;
}

pub none_vertical_across : (layer : Present) (vs : List Point) (ss : List Span) (es : List LayerEdge) → IsPlaneSkeleton (drawn vs ss) → es ≡ map (layer_edge layer vs) ss → AreSlantedAcross es
none_vertical_across layer vs ss es plane e = record {
  slanted = λ i r q a.
      let m = map_out (layer_edge layer vs) ss r (in_member _ r (subst (λ l. Contains l r) e q)) in
      let t = none_vertical vs ss (table vs ss) plane refl in
      let there : Contains (table vs ss) (reach_in vs m.0) = member_in _ _ (map_in (reach_in vs) ss m.0 m.1) in
      subst (λ (s : LayerEdge). left_of s.edge.lower s.edge.upper ≡ true) m.2 (t.slanted i (reach_in vs m.0) there (ap (is_across i) m.2 ∙ a));
}

-- ---- what is counted
count_of_map : {X Y : Type 0} (f : X → Y) (p : Y → Bool) (xs : List X) → count_by p (map f xs) ≡ count_by (λ x. p (f x)) xs
count_of_map f p xs = sum_by-map (λ y. cond {A = ℕ} (p y) 1 0) f xs

turned : (a o l : Bool) → (a && (o && l)) ≡ ((a && l) && o)
turned true true true = refl
turned true true false = refl
turned true false true = refl
turned true false false = refl
turned false o l = refl

module _ (layer : Present) (vs : List Point) (ss : List Span) where
  abbrev g : Skeleton
  g = drawn vs ss

  abbrev es : List LayerEdge
  es = map (layer_edge layer vs) ss

  below_is : (i : ℕ) (e : Edge) → count_below (filter (is_across i) es) e ≡ place g i e
  unfolding count_below
  below_is i e =
      count_filtered (λ (f : LayerEdge). below (edge_of f.edge) e) (is_across i) es
      ∙ count_of_map (layer_edge layer vs) (λ f. is_across i f && below (edge_of f.edge) e) ss
      ∙ sym (count_of_map edge_of (λ f. spans g i f && below f e) ss)

  place_is : (c : SlabCell) → count_layer (filter (is_across c.slab) es) c.place ≡ count_by (λ e. (spans g c.slab e && ltb (place g c.slab e) c.place) && has_curve_along layer e) g.edges
  place_is c =
      let i : ℕ = c.slab in
      let here : List LayerEdge = filter (is_across i) es in
      count_filtered (λ (e : LayerEdge). e.is_of_layer && ltb (count_below here (edge_of e.edge)) c.place) (is_across i) es
      ∙ count_of_map (layer_edge layer vs) (λ e. is_across i e && (e.is_of_layer && ltb (count_below here (edge_of e.edge)) c.place)) ss
      ∙ (λ k. count_by (λ (s : Span). (ap (λ (n : ℕ). is_across i (layer_edge layer vs s) && (has_curve_along layer (edge_of s) && ltb n c.place)) (below_is i (edge_of s)) ∙ turned (spans g i (edge_of s)) (has_curve_along layer (edge_of s)) (ltb (place g i (edge_of s)) c.place)) k) ss)
      ∙ sym (count_of_map edge_of (λ e. (spans g i e && ltb (place g i e) c.place) && has_curve_along layer e) ss)

  pub cell_is : (ns : List ℕ) (c : SlabCell) → ns ≡ map (slab_beside vs) (plane_of layer).vertices → cell_among es ns c ≡ cell_in layer g c
  unfolding cell_in
  cell_is ns c e =
      let slab = ap (count_by (λ n. leb n c.slab)) e ∙ count_of_map (slab_beside vs) (λ n. leb n c.slab) (plane_of layer).vertices in
      λ k. record { slab = slab k; place = place_is c k }
