-- The vertices of records and the pinned ones, read in order, are the points and pins of the graph that the records draw.
use Rattle.std.proofs.Common.{◌≡◌, ℕ, ◌<◌, List, length, get_or, map, refl, sym, ap, ◌∙◌, subst}
use Rattle.std.specs.Cmp.{on_total}
use Rattle.exact_plane.specs.Point.{Point}
use Rattle.exact_plane.specs.PointOrder.{point_cmp}
use Rattle.exact_plane.specs.PointOrderLaws.{point_cmp_total}
use Rattle.plane_graphs.specs.Ascending.{Member, IsAscending}
use Rattle.plane_graphs.proofs.Ascending.{IsAscending-ascending, ascending_unique}
use Rattle.plane_graphs.proofs.Lists.{in_map, of_map, in_filter, of_filter, IsAscending-filter, map_map}
use Rattle.plane_graphs.proofs.Loops.{read_in}
use Rattle.slab_laws.specs.Sound.{IsGraphSound, points_of}
use Rattle.slab_laws.specs.Tables.{names}
use Rattle.slab_laws.specs.View.{View, HasVertex, vertex_id, point_in, pinned_in}
use Rattle.sound_views.specs.Orders.{vertex_order}
use Rattle.sound_views.proofs.NamesOrdered.{points_in_order, vertex_ordered, ordered_vertex}
use Rattle.sound_views.proofs.PulledOrders.{IsAscending-map}
use Rattle.sound_views.proofs.GraphHolds.{graphs_hold}
use Rattle.arr_notes.specs.Curves.{Curves}
use Rattle.arr_notes.specs.RecordGraph.{drawn_graph}
use Rattle.record_orders.specs.declared.vertices.VertexKey.{VertexKey}
use Rattle.record_orders.specs.Keys.{vertex_key, vertex_keys}
use Rattle.subdivision_rows.specs.ByName.{points_at, pinned_among}

graph_pins_ascend : (v : View) (h : Curves) → IsAscending point_cmp (drawn_graph v h).pins
unfolding drawn_graph
graph_pins_ascend v h = IsAscending-ascending point_cmp point_cmp_total _

pub graph_points : (v : View) (h : Curves) → (drawn_graph v h).points ≡ points_of v
unfolding drawn_graph
graph_points v h = refl

module _ (v : View) (s : IsGraphSound v) where
  pub vertex_there : (ks : List VertexKey) (i : ℕ) (k : VertexKey) → ks ≡ vertex_keys v → i < length ks → k ≡ get_or ks i k → HasVertex v k.name
  vertex_there ks i k is h e =
      let w = of_map (vertex_key v) k (vertex_order v) (subst (λ ls. Member k ls) is (read_in ks i k h e)) in
      subst (HasVertex v) (sym (ap (λ (x : VertexKey). x.name) w.2)) (ordered_vertex v s w.0 w.1)

  pub points_are : points_at (vertex_keys v) ≡ points_of v
  points_are = map_map (vertex_key v) (λ k. k.point) (vertex_order v) ∙ points_in_order v s

  abbrev pins : List Point
  pins = points_at (pinned_among v (vertex_keys v))

  pins_ascend : IsAscending point_cmp pins
  unfolding vertex_order
  pins_ascend =
      IsAscending-map (λ (k m : VertexKey). point_cmp k.point m.point) point_cmp (λ k. k.point) (pinned_among v (vertex_keys v)) (λ k m i j l. l)
      (IsAscending-filter (λ (k m : VertexKey). point_cmp k.point m.point) (λ k. pinned_in v k.name) (vertex_keys v)
      (IsAscending-map (λ u w. point_cmp (point_in v u) (point_in v w)) (λ (k m : VertexKey). point_cmp k.point m.point) (vertex_key v) (vertex_order v) (λ u w i j l. l)
      (IsAscending-ascending (λ u w. point_cmp (point_in v u) (point_in v w)) (on_total (point_in v) point_cmp_total) (map vertex_id (names v.vertices)))))

  pin_there : (h : Curves) (p : Point) → Member p pins → Member p (drawn_graph v h).pins
  pin_there h p i =
      let k = of_map (λ (k : VertexKey). k.point) p (pinned_among v (vertex_keys v)) i in
      let f = of_filter (λ (k : VertexKey). pinned_in v k.name) k.0 (vertex_keys v) k.1 in
      let w = of_map (vertex_key v) k.0 (vertex_order v) f.0 in
      ((graphs_hold v h s).pins p).1
      (w.0, record { has = ordered_vertex v s w.0 w.1; at = ap (λ (m : VertexKey). m.point) (sym w.2) ∙ sym k.2 }, ap (λ (m : VertexKey). pinned_in v m.name) (sym w.2) ∙ f.1)

  pin_back : (h : Curves) (p : Point) → Member p (drawn_graph v h).pins → Member p pins
  pin_back h p i =
      let w = ((graphs_hold v h s).pins p).0 i in
      subst (λ q. Member q pins) w.1.at
      (in_map (λ (k : VertexKey). k.point) (vertex_key v w.0) (pinned_among v (vertex_keys v))
      (in_filter (λ (k : VertexKey). pinned_in v k.name) (vertex_key v w.0) (vertex_keys v) (in_map (vertex_key v) w.0 (vertex_order v) (vertex_ordered v s w.0 w.1.has)) w.2))

  pub pins_are : (h : Curves) → pins ≡ (drawn_graph v h).pins
  pins_are h = ascending_unique point_cmp point_cmp_total pins (drawn_graph v h).pins pins_ascend (graph_pins_ascend v h) (pin_there h) (pin_back h)
