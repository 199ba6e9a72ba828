-- The points and edges of the graph that a view draws are those of its names.
use Rattle.std.proofs.Common.{◌≡◌, ℕ, map, sym, ap, ◌∙◌, subst}
use Rattle.std.specs.List.{Contains}
use Rattle.exact_plane.specs.Point.{Point}
use Rattle.exact_plane.specs.PointOrder.{point_cmp}
use Rattle.exact_plane.specs.PointOrderLaws.{point_cmp_total, same_point as point_cmp_exact}
use Rattle.plane_graphs.specs.Ascending.{Member, IsAscending}
use Rattle.plane_graphs.specs.Graph.{edge_cmp}
use Rattle.plane_graphs.specs.Line.{IsProper}
use Rattle.plane_graphs.proofs.Ascending.{to_member, from_member, IsAscending-ascending}
use Rattle.plane_graphs.proofs.Lists.{in_map, of_map, in_ascending, of_ascending}
use Rattle.plane_graphs.proofs.Meaning.{edge_cmp_total}
use Rattle.slab_laws.specs.declared.names.VertexId.{VertexId}
use Rattle.slab_laws.specs.Sound.{skeleton_of, edge_in, IsNamed, IsGraphSound}
use Rattle.slab_laws.specs.View.{View, VertexRecord, HasVertex, vertex_id, dart_id, point_in, point_or}
pub use Rattle.sound_views.proofs.NamedDarts.{edge_known, known_edge}
use Rattle.sound_views.proofs.NameTables.{has_name, name_has, row_found}

module _ (v : View) (named : IsNamed v) where
  row_point : (r : ℕ × VertexRecord) → Member r v.vertices → point_in v (vertex_id r.0) ≡ r.1.point
  row_point r m = ap point_or (row_found v.vertices r named.vertices m)

  pub point_known : (u : VertexId) → HasVertex v u → Contains (skeleton_of v).vertices (point_in v u)
  point_known u has =
      let r = of_map (λ (r : ℕ × VertexRecord). r.0) u.0 v.vertices (has_name v.vertices u.0 has) in
      let q : point_in v u ≡ r.0.1.point = ap (λ k. point_in v (vertex_id k)) r.2 ∙ row_point r.0 r.1 in
      subst (Contains (skeleton_of v).vertices) (sym q)
      (from_member (skeleton_of v).vertices r.0.1.point (in_ascending point_cmp point_cmp_total point_cmp_exact r.0.1.point _ (in_map (λ (r : ℕ × VertexRecord). r.1.point) r.0 v.vertices r.1)))

  pub known_point : (q : Point) → Contains (skeleton_of v).vertices q → (u : VertexId) × HasVertex v u × (q ≡ point_in v u)
  known_point q c =
      let r = of_map (λ (r : ℕ × VertexRecord). r.1.point) q v.vertices (of_ascending point_cmp point_cmp_total point_cmp_exact q _ (to_member (skeleton_of v).vertices q c)) in
      (vertex_id r.0.0, name_has v.vertices r.0.0 (in_map (λ (r : ℕ × VertexRecord). r.0) r.0 v.vertices r.1), r.2 ∙ sym (row_point r.0 r.1))

-- the points of a sound view are points of the plane
pub points_proper : (v : View) → IsGraphSound v → (q : Point) → Contains (skeleton_of v).vertices q → IsProper q
points_proper v s q c = let r = known_point v s.named q c in subst IsProper (sym r.2) (s.drawn.proper r.0 r.1)

-- its points ascend, and its edges do
pub points_ascend : (v : View) → IsAscending point_cmp (skeleton_of v).vertices
points_ascend v = IsAscending-ascending point_cmp point_cmp_total (map (λ r. r.1.point) v.vertices)

pub edges_ascend : (v : View) → IsAscending edge_cmp (skeleton_of v).edges
edges_ascend v = IsAscending-ascending edge_cmp edge_cmp_total (map (λ r. edge_in v (dart_id r.0)) v.darts)
