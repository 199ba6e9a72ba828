-- The view draws the vertices and edges of its graph.
use Rattle.std.proofs.Common.{◌≡◌, ℕ, refl, sym, ap, ◌∙◌, subst, List, [], ◌∷◌, map, suc, arith}
use Rattle.std.specs.Prelude.{Some, slice_get}
use Rattle.std.specs.Option.{option_map}
use Rattle.std.proofs.lemmas.Option.{slice_get-map}
use Rattle.exact_plane.specs.Point.{Point}
use Rattle.exact_plane.specs.PointOrder.{point_cmp}
use Rattle.exact_plane.specs.PointOrderLaws.{point_cmp_total, same_point as point_cmp_exact}
use Rattle.plane_graphs.specs.Ascending.{ascending}
use Rattle.plane_graphs.specs.Graph.{Edge, edge_cmp, edges}
use Rattle.plane_graphs.specs.Plane.{IsPlane}
use Rattle.plane_graphs.proofs.Ascending.{ascending_is}
use Rattle.plane_graphs.proofs.Meaning.{edge_cmp_total, edge_cmp_exact, edges_ascend}
use Rattle.slab_laws.specs.Darts.{Dart, ahead}
use Rattle.slab_laws.specs.Rows.{dart_list, dart_place}
use Rattle.slab_laws.specs.Text.{numbered}
use Rattle.slab_laws.specs.View.{DartRecord, dart_id}
use Rattle.slab_laws.specs.Sound.{points_of, edge_in}
use Rattle.slab_faces.proofs.Member.{Member, member_in, in_member, map_in, map_out}
use Rattle.slab_faces.proofs.NextLemmas.{dart_in as dart_there}
use Rattle.subdivision_rows.specs.Listed.{Drawing, skeleton_in, vertex_record, dart_record, view_of}
use Rattle.subdivision_rows.specs.ListedLaws.{ViewDraws}
use Rattle.sound_views.proofs.ListedRows.{is_some_by, row_member, member_row}
use Rattle.sound_views.proofs.ListedPlaces.{to_in, from_in}
use Rattle.subdivision_rows.proofs.ListedRecords.{IsDart, mapped_value, is_dart, dart_is, of_edges}

points_back : (d : Drawing) (ps : List Point) (i : ℕ) → map (λ r. r.1.point) (numbered i (map (vertex_record d) ps)) ≡ ps
unfolding numbered
points_back d [] i = refl
points_back d (p ∷ ps) i = ap (λ qs. p ∷ qs) (points_back d ps (suc i))

module _ (d : Drawing) (pl : IsPlane d.graph) where
  points_are : points_of (view_of d) ≡ d.graph.points
  unfolding view_of
  points_are =
      ap (ascending point_cmp) (points_back d d.graph.points 0)
      ∙ sym (ascending_is point_cmp point_cmp_total d.graph.points d.graph.points (λ p q _ _ e. point_cmp_exact p q e) pl.points_ascend (λ p h. h) (λ p h. h))

  -- ---- the rows of darts
  row_there : (k : ℕ) (h : Dart) → IsDart d (dart_id k) h → Member (view_of d).darts (k, dart_record d h)
  unfolding view_of
  row_there k h i = row_member (map (dart_record d) (dart_list (skeleton_in d))) 0 k k (dart_record d h) (omega arith) (slice_get-map (dart_record d) (dart_list (skeleton_in d)) k ∙ ap (option_map (dart_record d)) i)

  there_row : (r : ℕ × DartRecord) → Member (view_of d).darts r → (h : Dart) × IsDart d (dart_id r.0) h
  unfolding view_of
  there_row r m =
      let w = member_row (map (dart_record d) (dart_list (skeleton_in d))) 0 r m in
      let k : w.0 ≡ r.0 = omega (arith, w.1) in
      let e = sym (slice_get-map (dart_record d) (dart_list (skeleton_in d)) w.0) ∙ w.2 in
      let v = mapped_value (dart_record d) (slice_get (dart_list (skeleton_in d)) w.0) (is_some_by _ r.1 e) in
      (v.0, subst (λ n. slice_get (dart_list (skeleton_in d)) n ≡ Some v.0) k v.1)

  edge_drawn : (e : Edge) → Member (edges d.graph) e → Member (map (λ r. edge_in (view_of d) (dart_id r.0)) (view_of d).darts) e
  edge_drawn e m =
      let h : Dart = ahead e in
      let k : ℕ = dart_place (skeleton_in d) h in
      let i = is_dart d pl h (dart_there (skeleton_in d) e _ (member_in (edges d.graph) e m)) in
      subst (Member (map (λ r. edge_in (view_of d) (dart_id r.0)) (view_of d).darts)) (ap (λ x. x.edge) (dart_is d pl (dart_id k) h i))
      (map_in (λ r. edge_in (view_of d) (dart_id r.0)) (view_of d).darts (k, dart_record d h) (row_there k h i))

  drawn_edge : (e : Edge) → Member (map (λ r. edge_in (view_of d) (dart_id r.0)) (view_of d).darts) e → Member (edges d.graph) e
  drawn_edge e m =
      let r = map_out (λ r. edge_in (view_of d) (dart_id r.0)) (view_of d).darts e m in
      let h = there_row r.0 r.1 in
      let same : h.0.edge ≡ e = sym (ap (λ x. x.edge) (dart_is d pl (dart_id r.0.0) h.0 h.1)) ∙ r.2 in
      subst (Member (edges d.graph)) same (in_member (edges d.graph) h.0.edge (of_edges d pl (dart_id r.0.0) h.0 h.1))

  edges_are : ascending edge_cmp (map (λ r. edge_in (view_of d) (dart_id r.0)) (view_of d).darts) ≡ edges d.graph
  edges_are =
      let rows : List Edge = map (λ r. edge_in (view_of d) (dart_id r.0)) (view_of d).darts in
      sym (ascending_is edge_cmp edge_cmp_total rows (edges d.graph) (λ e f _ _ k. edge_cmp_exact e f k) (edges_ascend d.graph)
      (λ e h. to_in rows e (edge_drawn e (from_in (edges d.graph) e h)))
      (λ e h. to_in (edges d.graph) e (drawn_edge e (from_in rows e h))))

pub view_draws : ViewDraws
view_draws d pl = let p = points_are d pl in let e = edges_are d pl in λ i. record { vertices = p i; edges = e i }
