-- What the records of a drawing say of each dart and vertex.
use Rattle.std.proofs.Common.{◌≡◌, ℕ, Bool, true, false, refl, sym, ap, ◌∙◌, subst, map, Option, Some, None}
use Rattle.std.specs.Prelude.{IsSome, slice_get, not}
use Rattle.std.specs.Option.{option_map}
use Rattle.std.specs.List.{Contains}
use Rattle.std.proofs.lemmas.Bool.{false≢true}
use Rattle.std.proofs.lemmas.Option.{slice_get-map}
use Rattle.exact_plane.specs.Point.{Point}
use Rattle.exact_plane.specs.PointOrder.{point_cmp}
use Rattle.exact_plane.specs.PointOrderLaws.{point_cmp_total}
use Rattle.plane_graphs.specs.Line.{precedes}
use Rattle.plane_graphs.specs.Graph.{Edge, edges}
use Rattle.plane_graphs.specs.Plane.{IsPlane}
use Rattle.plane_graphs.proofs.Ascending.{to_member}
use Rattle.plane_graphs.proofs.Order.{lt_out, lt_both}
use Rattle.plane_graphs.proofs.Meaning.{edge_out}
use Rattle.slab_laws.specs.declared.names.DartId.{DartId}
use Rattle.slab_laws.specs.declared.names.VertexId.{VertexId}
use Rattle.slab_laws.specs.Skeleton as counted
use Rattle.slab_laws.specs.Skeleton.{same_point}
use Rattle.slab_laws.specs.Darts.{Dart, darts, start, source, target}
use Rattle.slab_laws.specs.Rotation.{twin, same_dart, next}
use Rattle.slab_laws.specs.Rows.{dart_list, vertex_place, edge_place, dart_place}
use Rattle.slab_laws.specs.Tables.{row_at}
use Rattle.slab_laws.specs.View.{vertex_id, dart_id, HasVertex, HasDart, source_or, twin_or, next_or, line_or, point_or, point_in, source_in, twin_in, next_in, target_in, line_in}
use Rattle.slab_laws.specs.Sound.{edge_between, dart_in}
use Rattle.slab_faces.proofs.Member.{Member, in_member}
use Rattle.slab_faces.proofs.NextLemmas.{darts_exact, dart_out, dart_in as dart_there, start_in}
use Rattle.slab_faces.proofs.PlaneGraphs.{counts}
use Rattle.subdivision_rows.specs.Listed.{Drawing, skeleton_in, line_at, vertex_record, dart_record, view_of}
use Rattle.sound_views.proofs.ListedRows.{is_some_by, numbered_row, slice_get_member}
use Rattle.sound_views.proofs.ListedPlaces.{at_place, place_at, apart_ascending}
use Rattle.slab_faces.proofs.DartOrder.{dart_cmp_total, list_ascends}
use Rattle.slab_faces.proofs.Places.{points_exact}
use Rattle.sound_views.proofs.ListedDarts.{dart_listed, listed_dart, next_dart}
use Rattle.sound_views.proofs.GraphDrawn.{between_forward}
use Rattle.sound_views.proofs.NamedDarts.{by_points}
use Rattle.integers.proofs.Tests.{not_true}

pub mapped_value : {X Y : Type 0} (f : X → Y) (o : Option X) → IsSome (option_map f o) → (x : X) × (o ≡ Some x)
mapped_value f None h = absurd (false≢true h)
mapped_value f (Some x) h = (x, refl)

-- ---- a dart from its two points

between_back : (p q : Point) → precedes p q ≡ false → edge_between p q ≡ record { low = q; high = p }
between_back p q h = rw h refl

not_back : (p q : Point) → precedes p q ≡ true → precedes q p ≡ false
not_back p q h = not_true (precedes q p) (λ k. lt_both (lt_out p q h) (lt_out q p k))

pub dart_by_points : (e : Edge) (f : Bool) → precedes e.low e.high ≡ true → by_points (start e f) (start e (not f)) ≡ record { edge = e; forward = f }
dart_by_points e true h = let a = between_forward e.low e.high h in λ i. record { edge = a i; forward = h i }
dart_by_points e false h = let k = not_back e.low e.high h in let a = between_back e.high e.low k in λ i. record { edge = a i; forward = k i }

-- ---- rows
-- the dart goes by the name
abbrev pub IsDart : Drawing → DartId → Dart → Type 0
IsDart d e h = slice_get (dart_list (skeleton_in d)) e.0 ≡ Some h

-- the vertex goes by the name
abbrev pub IsVertex : Drawing → VertexId → Point → Type 0
IsVertex d w p = slice_get d.graph.points w.0 ≡ Some p

module _ (d : Drawing) where
  vertex_row : (k : ℕ) → row_at (view_of d).vertices k ≡ option_map (vertex_record d) (slice_get d.graph.points k)
  unfolding view_of
  vertex_row k = numbered_row (map (vertex_record d) d.graph.points) k ∙ slice_get-map (vertex_record d) d.graph.points k

  dart_row : (k : ℕ) → row_at (view_of d).darts k ≡ option_map (dart_record d) (slice_get (dart_list (skeleton_in d)) k)
  unfolding view_of
  dart_row k = numbered_row (map (dart_record d) (dart_list (skeleton_in d))) k ∙ slice_get-map (dart_record d) (dart_list (skeleton_in d)) k

  row_of_vertex : (w : VertexId) (p : Point) → IsVertex d w p → row_at (view_of d).vertices w.0 ≡ Some (vertex_record d p)
  row_of_vertex w p i = vertex_row w.0 ∙ ap (option_map (vertex_record d)) i

  row_of_dart : (e : DartId) (h : Dart) → IsDart d e h → row_at (view_of d).darts e.0 ≡ Some (dart_record d h)
  row_of_dart e h i = dart_row e.0 ∙ ap (option_map (dart_record d)) i

  -- ---- what has a record
  pub vertex_of : (w : VertexId) → HasVertex (view_of d) w → (p : Point) × IsVertex d w p
  vertex_of w h = mapped_value (vertex_record d) (slice_get d.graph.points w.0) (subst IsSome (vertex_row w.0) h)

  pub has_vertex : (w : VertexId) (p : Point) → IsVertex d w p → HasVertex (view_of d) w
  has_vertex w p i = is_some_by (row_at (view_of d).vertices w.0) (vertex_record d p) (row_of_vertex w p i)

  pub dart_of : (e : DartId) → HasDart (view_of d) e → (h : Dart) × IsDart d e h
  dart_of e h = mapped_value (dart_record d) (slice_get (dart_list (skeleton_in d)) e.0) (subst IsSome (dart_row e.0) h)

  pub has_dart : (e : DartId) (h : Dart) → IsDart d e h → HasDart (view_of d) e
  has_dart e h i = is_some_by (row_at (view_of d).darts e.0) (dart_record d h) (row_of_dart e h i)

  -- ---- what the records say
  pub point_of : (w : VertexId) (p : Point) → IsVertex d w p → point_in (view_of d) w ≡ p
  point_of w p i = ap point_or (row_of_vertex w p i)

  pub source_of : (e : DartId) (h : Dart) → IsDart d e h → source_in (view_of d) e ≡ vertex_id (vertex_place (skeleton_in d) (source h))
  source_of e h i = ap source_or (row_of_dart e h i)

  pub twin_of : (e : DartId) (h : Dart) → IsDart d e h → twin_in (view_of d) e ≡ dart_id (dart_place (skeleton_in d) (twin h))
  twin_of e h i = ap (twin_or e) (row_of_dart e h i)

  pub next_of : (e : DartId) (h : Dart) → IsDart d e h → next_in (view_of d) e ≡ dart_id (dart_place (skeleton_in d) (next (darts (skeleton_in d)) h))
  next_of e h i = ap (next_or e) (row_of_dart e h i)

  pub line_of : (e : DartId) (h : Dart) → IsDart d e h → line_in (view_of d) e ≡ line_at d (edge_place (skeleton_in d) h.edge)
  line_of e h i = ap line_or (row_of_dart e h i)

-- ---- of a plane graph
module _ (d : Drawing) (pl : IsPlane d.graph) where
  pub plane : counted.IsPlaneSkeleton (skeleton_in d)
  plane = counts d.graph pl

  pub forward : (e : Edge) → Contains (edges d.graph) e → precedes e.low e.high ≡ true
  forward e E = let w = edge_out d.graph e (to_member (edges d.graph) e E) in subst (λ z. precedes z.low z.high ≡ true) (sym w.2) (pl.forward w.0 w.1)

  -- ---- names and places
  pub is_dart : (h : Dart) → Member (darts (skeleton_in d)) h → IsDart d (dart_id (dart_place (skeleton_in d) h)) h
  is_dart h m = at_place same_dart darts_exact (dart_list (skeleton_in d)) h (dart_listed (skeleton_in d) plane h m)

  pub of_darts : (e : DartId) (h : Dart) → IsDart d e h → Member (darts (skeleton_in d)) h
  of_darts e h i = listed_dart (skeleton_in d) plane h (slice_get_member (dart_list (skeleton_in d)) e.0 h i)

  pub of_edges : (e : DartId) (h : Dart) → IsDart d e h → Contains (edges d.graph) h.edge
  of_edges e h i = dart_out (skeleton_in d) h (of_darts e h i)

  pub dart_name : (e : DartId) (h : Dart) → IsDart d e h → dart_id (dart_place (skeleton_in d) h) ≡ e
  dart_name e h i = ap dart_id (place_at same_dart darts_exact (dart_list (skeleton_in d)) e.0 h (apart_ascending same_dart darts_exact _ dart_cmp_total (dart_list (skeleton_in d)) (list_ascends (skeleton_in d) plane)) i)

  pub is_vertex : (p : Point) → Member d.graph.points p → IsVertex d (vertex_id (vertex_place (skeleton_in d) p)) p
  is_vertex p m = at_place same_point points_exact d.graph.points p m

  pub vertex_name : (w : VertexId) (p : Point) → IsVertex d w p → vertex_id (vertex_place (skeleton_in d) p) ≡ w
  vertex_name w p i = ap vertex_id (place_at same_point points_exact d.graph.points w.0 p (apart_ascending same_point points_exact point_cmp point_cmp_total d.graph.points pl.points_ascend) i)

  -- ---- the ends, the twin and the next dart
  pub source_there : (h : Dart) → Member (darts (skeleton_in d)) h → Member d.graph.points (source h)
  source_there h m = in_member d.graph.points (source h) (start_in (skeleton_in d) h.edge h.forward plane (dart_out (skeleton_in d) h m))

  pub twin_dart : (h : Dart) → Member (darts (skeleton_in d)) h → Member (darts (skeleton_in d)) (twin h)
  twin_dart h m = dart_there (skeleton_in d) h.edge (not h.forward) (dart_out (skeleton_in d) h m)

  pub source_is : (e : DartId) (h : Dart) → IsDart d e h → IsVertex d (source_in (view_of d) e) (source h)
  source_is e h i = subst (λ w. IsVertex d w (source h)) (sym (source_of d e h i)) (is_vertex (source h) (source_there h (of_darts e h i)))

  pub twin_is : (e : DartId) (h : Dart) → IsDart d e h → IsDart d (twin_in (view_of d) e) (twin h)
  twin_is e h i = subst (λ w. IsDart d w (twin h)) (sym (twin_of d e h i)) (is_dart (twin h) (twin_dart h (of_darts e h i)))

  pub next_is : (e : DartId) (h : Dart) → IsDart d e h → IsDart d (next_in (view_of d) e) (next (darts (skeleton_in d)) h)
  next_is e h i = subst (λ w. IsDart d w (next (darts (skeleton_in d)) h)) (sym (next_of d e h i)) (is_dart (next (darts (skeleton_in d)) h) (next_dart (skeleton_in d) plane h (of_darts e h i)))

  pub source_point : (e : DartId) (h : Dart) → IsDart d e h → point_in (view_of d) (source_in (view_of d) e) ≡ source h
  source_point e h i = point_of d (source_in (view_of d) e) (source h) (source_is e h i)

  pub target_point : (e : DartId) (h : Dart) → IsDart d e h → point_in (view_of d) (target_in (view_of d) e) ≡ target h
  target_point e h i = source_point (twin_in (view_of d) e) (twin h) (twin_is e h i)

  pub dart_is : (e : DartId) (h : Dart) → IsDart d e h → dart_in (view_of d) e ≡ h
  dart_is e h i =
      let s = source_point e h i in
      let t = target_point e h i in
      (λ j. by_points (s j) (t j)) ∙ dart_by_points h.edge h.forward (forward h.edge (of_edges e h i))
