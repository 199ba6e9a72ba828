-- The points, marks and pins of the graph that records draw are those of their rows.
use Rattle.std.proofs.Common.{◌≡◌, ℕ, true, refl, sym, ap, ◌∙◌, subst, [], map, ⊎_elim}
use Rattle.std.specs.Prelude.{◌↔◌}
use Rattle.std.specs.List.{filter, flat_map}
use Rattle.exact_plane.specs.Point.{Point}
use Rattle.exact_plane.specs.PointOrder.{point_cmp}
use Rattle.exact_plane.specs.PointOrderLaws.{point_cmp_total, same_point as point_cmp_exact}
use Rattle.plane_graphs.specs.Ascending.{Member}
use Rattle.plane_graphs.specs.Graph.{Mark, mark, mark_cmp}
use Rattle.plane_graphs.proofs.Lists.{in_map, of_map, in_filter, of_filter, in_flat_map, of_flat_map, in_ascending, of_ascending, if_true, if_out}
use Rattle.plane_graphs.proofs.Marks.{mark_path}
use Rattle.plane_graphs.proofs.Order.{mark_cmp_total, mark_cmp_exact}
use Rattle.slab_laws.specs.declared.names.DartId.{DartId}
use Rattle.slab_laws.specs.declared.names.VertexId.{VertexId}
use Rattle.slab_laws.specs.Sound.{IsNamed, points_of}
use Rattle.slab_laws.specs.View.{View, VertexRecord, HasVertex, HasDart, vertex_id, dart_id, point_or, pin_or, point_in, pinned_in, source_in, target_in}
use Rattle.sound_views.proofs.NameTables.{has_name, name_has, row_found}
use Rattle.arr_notes.specs.Curves.{Curves, is_forward}
use Rattle.arr_notes.specs.RecordGraph.{marks_along, drawn_graph}
use Rattle.sound_views.specs.RecordGraphLaws.{IsVertexAt, IsMarkOf, GraphHolds, GraphsHold}

-- ---- the rows of vertices
-- a row of the vertex, in which its point and its pin stand
record RowOf (v : View) (w : VertexId) : Type 0 where
  pub row : ℕ × VertexRecord
  pub here : Member row v.vertices
  pub point : row.1.point ≡ point_in v w
  pub pinned : row.1.pinned ≡ pinned_in v w

module _ (v : View) (n : IsNamed v) where
  -- a row's name has a record, with its point and its pin
  row_vertex : (r : ℕ × VertexRecord) → Member r v.vertices → IsVertexAt v r.1.point (vertex_id r.0)
  row_vertex r m = record {
    has = name_has v.vertices r.0 (in_map (λ t. t.0) r v.vertices m);
    at = ap point_or (row_found v.vertices r n.vertices m);
  }

  row_pin : (r : ℕ × VertexRecord) → Member r v.vertices → pinned_in v (vertex_id r.0) ≡ r.1.pinned
  row_pin r m = ap pin_or (row_found v.vertices r n.vertices m)

  -- and a vertex has such a row
  vertex_row : (w : VertexId) → HasVertex v w → RowOf v w
  vertex_row w has =
      let r = of_map (λ t. t.0) w.0 v.vertices (has_name v.vertices w.0 has) in
      let same : vertex_id r.0.0 ≡ w = ap vertex_id (sym r.2) in
      record {
        row = r.0;
        here = r.1;
        point = sym (row_vertex r.0 r.1).at ∙ ap (point_in v) same;
        pinned = sym (row_pin r.0 r.1) ∙ ap (pinned_in v) same;
      }

  -- ---- points
  point_at : (p : Point) → Member p (points_of v) → (w : VertexId) × IsVertexAt v p w
  point_at p m =
      let r = of_map (λ r. r.1.point) p v.vertices (of_ascending point_cmp point_cmp_total point_cmp_exact p (map (λ r. r.1.point) v.vertices) m) in
      (vertex_id r.0.0, subst (λ q. IsVertexAt v q (vertex_id r.0.0)) (sym r.2) (row_vertex r.0 r.1))

  vertex_at : (p : Point) → (w : VertexId) × IsVertexAt v p w → Member p (points_of v)
  vertex_at p w =
      let r = vertex_row w.0 w.1.has in
      in_ascending point_cmp point_cmp_total point_cmp_exact p (map (λ r. r.1.point) v.vertices)
      (subst (λ q. Member q (map (λ r. r.1.point) v.vertices)) (r.point ∙ w.1.at) (in_map (λ r. r.1.point) r.row v.vertices r.here))

  module _ (h : Curves) where
    points_held : (p : Point) → Member p (drawn_graph v h).points ↔ ((w : VertexId) × IsVertexAt v p w)
    unfolding drawn_graph
    points_held p = (point_at p, vertex_at p)

    -- ---- pins
    pin_at : (p : Point) → Member p (drawn_graph v h).pins → (w : VertexId) × IsVertexAt v p w × (pinned_in v w ≡ true)
    unfolding drawn_graph
    pin_at p m =
        let rows = filter (λ r. r.1.pinned) v.vertices in
        let r = of_map (λ r. r.1.point) p rows (of_ascending point_cmp point_cmp_total point_cmp_exact p (map (λ r. r.1.point) rows) m) in
        let f = of_filter (λ r. r.1.pinned) r.0 v.vertices r.1 in
        (vertex_id r.0.0, subst (λ q. IsVertexAt v q (vertex_id r.0.0)) (sym r.2) (row_vertex r.0 f.0), row_pin r.0 f.0 ∙ f.1)

    pinned_at : (p : Point) → (w : VertexId) × IsVertexAt v p w × (pinned_in v w ≡ true) → Member p (drawn_graph v h).pins
    unfolding drawn_graph
    pinned_at p w =
        let rows = filter (λ r. r.1.pinned) v.vertices in
        let r = vertex_row w.0 w.1.has in
        in_ascending point_cmp point_cmp_total point_cmp_exact p (map (λ r. r.1.point) rows)
        (subst (λ q. Member q (map (λ r. r.1.point) rows)) (r.point ∙ w.1.at)
        (in_map (λ r. r.1.point) r.row rows (in_filter (λ r. r.1.pinned) r.row v.vertices r.here (r.pinned ∙ w.2))))

    -- ---- marks
    -- a mark along a dart is one of its edge
    along_mark : (d : DartId) (m : Mark) → HasDart v d → Member m (marks_along v h d) → IsMarkOf v h m d
    along_mark d m has k = ⊎_elim (λ t. forward t.0 t.1) (λ t. absurd t.1) (if_out (is_forward v d) m _ [] k)
      where
        forward : is_forward v d ≡ true → Member m (map (mark (point_in v (source_in v d)) (point_in v (target_in v d))) (h d)) → IsMarkOf v h m d
        forward f t =
            let c = of_map (mark (point_in v (source_in v d)) (point_in v (target_in v d))) m (h d) t in
            record {
              forward = (has, f);
              low = ap (λ (n : Mark). n.low) (sym c.2);
              high = ap (λ (n : Mark). n.high) (sym c.2);
              curve = subst (λ k. Member k (h d)) (ap (λ (n : Mark). n.curve) (sym c.2)) c.1;
            }

    mark_along : (d : DartId) (m : Mark) → IsMarkOf v h m d → Member m (marks_along v h d)
    mark_along d m k =
        let p = point_in v (source_in v d) in
        let q = point_in v (target_in v d) in
        if_true (is_forward v d) m (map (mark p q) (h d)) [] k.forward.1
        (subst (λ n. Member n (map (mark p q) (h d))) (sym (mark_path m p q m.curve (sym k.low) (sym k.high) refl)) (in_map (mark p q) m.curve (h d) k.curve))

    mark_of : (m : Mark) → Member m (drawn_graph v h).marks → (d : DartId) × IsMarkOf v h m d
    unfolding drawn_graph
    mark_of m k =
        let r = of_flat_map (λ r. marks_along v h (dart_id r.0)) m v.darts (of_ascending mark_cmp mark_cmp_total mark_cmp_exact m (flat_map (λ r. marks_along v h (dart_id r.0)) v.darts) k) in
        (dart_id r.0.0, along_mark (dart_id r.0.0) m (name_has v.darts r.0.0 (in_map (λ t. t.0) r.0 v.darts r.1)) r.2)

    of_mark : (m : Mark) → (d : DartId) × IsMarkOf v h m d → Member m (drawn_graph v h).marks
    unfolding drawn_graph
    of_mark m k =
        let r = of_map (λ t. t.0) k.0.0 v.darts (has_name v.darts k.0.0 k.1.forward.0) in
        in_ascending mark_cmp mark_cmp_total mark_cmp_exact m (flat_map (λ r. marks_along v h (dart_id r.0)) v.darts)
        (in_flat_map (λ r. marks_along v h (dart_id r.0)) r.0 m v.darts r.1 (subst (λ n. Member m (marks_along v h (dart_id n))) r.2 (mark_along k.0 m k.1)))

-- the names of the records ascend: nothing else is asked of them
pub graph_holds : (v : View) (h : Curves) → IsNamed v → GraphHolds v h
graph_holds v h n = record {
  points = points_held v n h;
  marks = λ m. (mark_of v n h m, of_mark v n h m);
  pins = λ p. (pin_at v n h p, pinned_at v n h p);
}

pub graphs_hold : GraphsHold
graphs_hold v h s = graph_holds v h s.named
