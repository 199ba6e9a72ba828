-- The names of a sound view in order are its points, darts and edges in order.
use Rattle.std.proofs.Common.{◌≡◌, Bool, true, false, not, sym, ap, ap₂, ◌∙◌, subst, List, map, Less, Equal, ⊎_elim}
use Rattle.std.specs.Prelude.{filter}
use Rattle.std.specs.List.{Contains}
use Rattle.std.specs.Cmp.{IsTotalOrder}
use Rattle.std.proofs.lemmas.Bool.{false≢true}
use Rattle.std.proofs.lemmas.Cmp.{on_total}
use Rattle.exact_plane.specs.PointOrder.{point_cmp}
use Rattle.exact_plane.specs.PointOrderLaws.{point_cmp_total, same_point as point_cmp_exact}
use Rattle.plane_graphs.specs.Ascending.{Member, IsAscending, ascending}
use Rattle.plane_graphs.specs.Graph.{Edge, edge_cmp}
use Rattle.plane_graphs.proofs.Ascending.{IsAscending-ascending, Member-ascending, ascending-Member, ascending_is, to_member, from_member}
use Rattle.plane_graphs.proofs.Lists.{decide, in_map, of_map, in_filter, of_filter, IsAscending-filter, map_map, map_same}
use Rattle.plane_graphs.proofs.Meaning.{edge_cmp_total, edge_cmp_exact}
use Rattle.slab_laws.specs.declared.names.DartId.{DartId}
use Rattle.slab_laws.specs.declared.names.VertexId.{VertexId}
use Rattle.slab_laws.specs.Darts.{Dart, darts}
use Rattle.slab_laws.specs.Rotation.{dart_cmp}
use Rattle.slab_laws.specs.Rows.{dart_list}
use Rattle.slab_laws.specs.Tables.{names}
use Rattle.slab_laws.specs.View.{View, HasVertex, HasDart, vertex_id, dart_id, point_in, point_or, twin_in}
use Rattle.slab_laws.specs.Sound.{skeleton_of, dart_in, IsGraphSound}
use Rattle.slab_faces.proofs.DartOrder.{dart_cmp_total}
use Rattle.sound_views.specs.Orders.{vertex_order, dart_order}
use Rattle.sound_views.specs.OrderLaws.{VerticesInOrder, VerticesAreOrdered, DartsInOrder, DartsAreOrdered, EdgesInOrder}
use Rattle.sound_views.proofs.PulledOrders.{map_ascending, ascending_same, IsAscending-map}
use Rattle.sound_views.proofs.NameTables.{row_found}
use Rattle.sound_views.proofs.NamedDarts.{vertex_name, named_vertex, dart_name, named_dart, same_dart_of, row_edges, edge_row, row_edge, twin_dart, known, there}

-- the names of vertices and of darts, as they stand in the tables
abbrev vertex_names : View → List VertexId
vertex_names v = map vertex_id (names v.vertices)

abbrev dart_names : View → List DartId
dart_names v = map dart_id (names v.darts)

-- darts that go from the lesser end compare as their edges do
pub ahead_keeps : (e f : Edge) (a b : Bool) → a ≡ true → b ≡ true → dart_cmp (record { edge = e; forward = a }) (record { edge = f; forward = b }) ≡ Less → edge_cmp e f ≡ Less
unfolding edge_cmp
ahead_keeps e f true true p q h = h
ahead_keeps e f true false p q h = absurd (false≢true q)
ahead_keeps e f false b p q h = absurd (false≢true p)

module _ (v : View) (s : IsGraphSound v) where
  -- ---- vertices
  vertices_total : IsTotalOrder (λ u w. point_cmp (point_in v u) (point_in v w))
  vertices_total = on_total (point_in v) point_cmp_total

  vertices_exact : (u w : VertexId) → Member u (vertex_names v) → Member w (vertex_names v) → point_cmp (point_in v u) (point_in v w) ≡ Equal → u ≡ w
  vertices_exact u w a b e = s.drawn.points u w (named_vertex v u a) (named_vertex v w b) (point_cmp_exact (point_in v u) (point_in v w) e)

  -- each row's name names its point
  named_points : map (point_in v) (vertex_names v) ≡ map (λ r. r.1.point) v.vertices
  named_points =
      map_map vertex_id (point_in v) (names v.vertices)
      ∙ map_map (λ r. r.0) (λ n. point_in v (vertex_id n)) v.vertices
      ∙ map_same (λ r. point_in v (vertex_id r.0)) (λ r. r.1.point) v.vertices (λ r m. ap point_or (row_found v.vertices r s.named.vertices m))

  pub points_in_order : map (point_in v) (vertex_order v) ≡ (skeleton_of v).vertices
  unfolding vertex_order
  points_in_order = map_ascending (point_in v) point_cmp (vertex_names v) ∙ ap (ascending point_cmp) named_points

  pub vertex_ordered : (w : VertexId) → HasVertex v w → Member w (vertex_order v)
  unfolding vertex_order
  vertex_ordered w has = ascending-Member _ vertices_total w (vertex_names v) vertices_exact (vertex_name v w has)

  pub ordered_vertex : (w : VertexId) → Member w (vertex_order v) → HasVertex v w
  unfolding vertex_order
  ordered_vertex w m = named_vertex v w (Member-ascending _ vertices_total w (vertex_names v) m)

  -- ---- darts
  darts_total : IsTotalOrder (λ d e. dart_cmp (dart_in v d) (dart_in v e))
  darts_total = on_total (dart_in v) dart_cmp_total

  darts_exact : (d e : DartId) → Member d (dart_names v) → Member e (dart_names v) → dart_cmp (dart_in v d) (dart_in v e) ≡ Equal → d ≡ e
  darts_exact d e a b k = s.turned.differ d e (named_dart v d a) (named_dart v e b) (same_dart_of v d e k)

  -- source and target tell the graph's darts apart, since each has a name
  graph_exact : (h k : Dart) → Member h (darts (skeleton_of v)) → Member k (darts (skeleton_of v)) → dart_cmp h k ≡ Equal → h ≡ k
  graph_exact h k a b e =
      let d = there v s h (from_member (darts (skeleton_of v)) h a) in
      let c = there v s k (from_member (darts (skeleton_of v)) k b) in
      sym d.2 ∙ same_dart_of v d.0 c.0 (ap₂ dart_cmp d.2 c.2 ∙ e) ∙ c.2

  pub darts_in_order_of : map (dart_in v) (dart_order v) ≡ dart_list (skeleton_of v)
  unfolding dart_order dart_list
  darts_in_order_of =
      map_ascending (dart_in v) dart_cmp (dart_names v)
      ∙ ascending_same dart_cmp dart_cmp_total (map (dart_in v) (dart_names v)) (darts (skeleton_of v)) graph_exact
      (λ h m. let r = of_map (dart_in v) h (dart_names v) m in to_member (darts (skeleton_of v)) h (subst (Contains (darts (skeleton_of v))) (sym r.2) (known v s r.0 (named_dart v r.0 r.1))))
      (λ h m. let d = there v s h (from_member (darts (skeleton_of v)) h m) in subst (λ k. Member k (map (dart_in v) (dart_names v))) d.2 (in_map (dart_in v) d.0 (dart_names v) (dart_name v d.0 d.1)))

  pub dart_ordered : (d : DartId) → HasDart v d → Member d (dart_order v)
  unfolding dart_order
  dart_ordered d has = ascending-Member _ darts_total d (dart_names v) darts_exact (dart_name v d has)

  pub ordered_dart : (d : DartId) → Member d (dart_order v) → HasDart v d
  unfolding dart_order
  ordered_dart d m = named_dart v d (Member-ascending _ darts_total d (dart_names v) m)

  -- ---- edges
  abbrev goes_ahead : DartId → Bool
  goes_ahead d = (dart_in v d).forward

  abbrev along : DartId → Edge
  along d = (dart_in v d).edge

  abbrev kept : List Edge
  kept = map along (filter goes_ahead (dart_order v))

  order_ascends : IsAscending (λ d e. dart_cmp (dart_in v d) (dart_in v e)) (dart_order v)
  unfolding dart_order
  order_ascends = IsAscending-ascending _ darts_total (dart_names v)

  kept_ascend : IsAscending edge_cmp kept
  kept_ascend =
      IsAscending-map (λ d e. dart_cmp (dart_in v d) (dart_in v e)) edge_cmp along (filter goes_ahead (dart_order v))
      (λ d e a b l. ahead_keeps (along d) (along e) (goes_ahead d) (goes_ahead e) (of_filter goes_ahead d (dart_order v) a).1 (of_filter goes_ahead e (dart_order v) b).1 l)
      (IsAscending-filter (λ d e. dart_cmp (dart_in v d) (dart_in v e)) goes_ahead (dart_order v) order_ascends)

  -- of a dart and its twin one goes from the lesser end
  edge_kept : (d : DartId) → HasDart v d → Member (along d) kept
  edge_kept d has =
      ⊎_elim (λ a. in_map along d (filter goes_ahead (dart_order v)) (in_filter goes_ahead d (dart_order v) (dart_ordered d has) a))
      (λ a.
      let t = twin_dart v s d has in
      subst (λ e. Member e kept) (ap (λ h. h.edge) t)
      (in_map along (twin_in v d) (filter goes_ahead (dart_order v))
      (in_filter goes_ahead (twin_in v d) (dart_order v) (dart_ordered (twin_in v d) (s.twinned.has d has)) (ap (λ h. h.forward) t ∙ ap not a))))
      (decide (goes_ahead d))

  pub edges_in_order_of : kept ≡ (skeleton_of v).edges
  edges_in_order_of =
      ascending_is edge_cmp edge_cmp_total (row_edges v) kept (λ e f a b k. edge_cmp_exact e f k) kept_ascend
      (λ e m.
      let r = of_map along e (filter goes_ahead (dart_order v)) m in
      subst (λ f. Member f (row_edges v)) (sym r.2) (edge_row v r.0 (ordered_dart r.0 (of_filter goes_ahead r.0 (dart_order v) r.1).0)))
      (λ e m. let r = row_edge v e m in subst (λ f. Member f kept) (sym r.2) (edge_kept r.0 r.1))

pub vertices_in_order : VerticesInOrder
vertices_in_order v s = points_in_order v s

pub vertices_are_ordered : VerticesAreOrdered
vertices_are_ordered v w s = (λ has. from_member (vertex_order v) w (vertex_ordered v s w has), λ c. ordered_vertex v s w (to_member (vertex_order v) w c))

pub darts_in_order : DartsInOrder
darts_in_order v s = darts_in_order_of v s

pub darts_are_ordered : DartsAreOrdered
darts_are_ordered v d s = (λ has. from_member (dart_order v) d (dart_ordered v s d has), λ c. ordered_dart v s d (to_member (dart_order v) d c))

pub edges_in_order : EdgesInOrder
edges_in_order v s = edges_in_order_of v s
