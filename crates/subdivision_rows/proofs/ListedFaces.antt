-- What the records of cycles, bare vertices and faces say.
use Rattle.std.proofs.Common.{◌≡◌, ℕ, ◌<◌, false, arith, refl, sym, ap, ◌∙◌, subst, List, map, length, Option, Some, None}
use Rattle.std.specs.Prelude.{IsSome, slice_get, not, filter}
use Rattle.std.specs.Option.{option_map}
use Rattle.std.specs.List.{position_or_len, range_with_len}
use Rattle.std.proofs.lemmas.Bool.{not-true}
use Rattle.std.proofs.lemmas.Option.{slice_get-map}
use Rattle.exact_plane.specs.Point.{Point}
use Rattle.plane_graphs.specs.Plane.{IsPlane}
use Rattle.slab_laws.specs.declared.names.CycleId.{CycleId}
use Rattle.slab_laws.specs.declared.names.DartId.{DartId}
use Rattle.slab_laws.specs.declared.names.FaceId.{FaceId}
use Rattle.slab_laws.specs.declared.names.VertexId.{VertexId}
use Rattle.slab_laws.specs.Kinds.{kind_by}
use Rattle.slab_laws.specs.Slabs.{left_cell}
use Rattle.slab_laws.specs.Darts.{Dart, darts}
use Rattle.slab_laws.specs.Rotation.{same_dart}
use Rattle.slab_laws.specs.Cycles.{dart_labels, odd, left_of_dart}
use Rattle.slab_laws.specs.Faces.{face_labels, face_of}
use Rattle.slab_laws.specs.Rows.{dart_list, least_dart_of, lead_list, vertex_place, cycle_place}
use Rattle.slab_laws.specs.Subdivision.{Bare, subdivision, rank, has_dart}
use Rattle.slab_laws.specs.Tables.{row_at}
use Rattle.slab_laws.specs.Text.{numbered}
use Rattle.slab_laws.specs.View.{cycle_id, face_id, HasCycle, HasFace, HasBareFace, cycle_or, kind_or, face_or, bare_or, cycle_in, kind_in, face_in, bare_face_in}
use Rattle.slab_faces.proofs.Member.{Member, member_in, in_member, map_in, map_out, filter_in, filter_out}
use Rattle.slab_faces.proofs.Searches.{in_range, range_below}
use Rattle.slab_faces.proofs.NextLemmas.{darts_exact}
use Rattle.subdivision_rows.specs.Listed.{Drawing, skeleton_in, subdivision_in, cycle_record, faces_of}
use Rattle.sound_views.proofs.ListedRows.{is_some_by, numbered_row, slice_get_member, keyed_in, keyed_out}
use Rattle.sound_views.proofs.ListedPlaces.{at_place, place_at, apart_ascending}
use Rattle.slab_faces.proofs.DartOrder.{dart_cmp_total}
use Rattle.sound_views.proofs.ListedDarts.{lead_listed, leads_ascend}
use Rattle.subdivision_rows.proofs.ListedRecords.{IsDart, IsVertex, mapped_value, plane, is_vertex, vertex_name, of_darts}
use Rattle.sound_views.proofs.RankedFaces.{cycle_of, cycles_are, outer_is, face_is}

-- the least dart's cycle goes by the name
abbrev pub IsCycle : Drawing → CycleId → Dart → Type 0
IsCycle d c l = slice_get (lead_list (skeleton_in d)) c.0 ≡ Some l

-- the face of a dart, and that round a point
abbrev pub left_face : Drawing → Dart → FaceId
left_face d h = face_id (rank (subdivision_in d) (face_of (face_labels (skeleton_in d)) (left_of_dart (skeleton_in d) h)))

abbrev pub round_face : Drawing → Point → FaceId
round_face d p = face_id (rank (subdivision_in d) (face_of (face_labels (skeleton_in d)) (left_cell (skeleton_in d) p)))

abbrev pub bare_of : Drawing → Point → Bare
bare_of d p = record { point = p; face = face_of (face_labels (skeleton_in d)) (left_cell (skeleton_in d) p) }

module _ (d : Drawing) where
  -- ---- cycles
  cycle_of_row : (k : ℕ) → row_at (faces_of d).cycle_of k ≡ option_map (λ h. cycle_id (cycle_place (skeleton_in d) h)) (slice_get (dart_list (skeleton_in d)) k)
  unfolding faces_of
  cycle_of_row k =
      numbered_row (map (λ h. cycle_id (cycle_place (skeleton_in d) h)) (dart_list (skeleton_in d))) k
      ∙ slice_get-map (λ h. cycle_id (cycle_place (skeleton_in d) h)) (dart_list (skeleton_in d)) k

  cycle_row : (k : ℕ) → row_at (faces_of d).cycles k ≡ option_map (λ l. cycle_record d (cycle_of (skeleton_in d) l)) (slice_get (lead_list (skeleton_in d)) k)
  unfolding faces_of
  cycle_row k =
      ap (λ cs. row_at (numbered 0 (map (cycle_record d) cs)) k) (cycles_are (skeleton_in d))
      ∙ numbered_row (map (cycle_record d) (map (cycle_of (skeleton_in d)) (lead_list (skeleton_in d)))) k
      ∙ slice_get-map (cycle_record d) (map (cycle_of (skeleton_in d)) (lead_list (skeleton_in d))) k
      ∙ ap (option_map (cycle_record d)) (slice_get-map (cycle_of (skeleton_in d)) (lead_list (skeleton_in d)) k)
      ∙ twice (slice_get (lead_list (skeleton_in d)) k)
    where
      twice : (o : Option Dart) → option_map (cycle_record d) (option_map (cycle_of (skeleton_in d)) o) ≡ option_map (λ l. cycle_record d (cycle_of (skeleton_in d) l)) o
      twice None = refl
      twice (Some l) = refl

  row_of_dart : (e : DartId) (h : Dart) → IsDart d e h → row_at (faces_of d).cycle_of e.0 ≡ Some (cycle_id (cycle_place (skeleton_in d) h))
  row_of_dart e h i = cycle_of_row e.0 ∙ ap (option_map (λ h. cycle_id (cycle_place (skeleton_in d) h))) i

  row_of_cycle : (c : CycleId) (l : Dart) → IsCycle d c l → row_at (faces_of d).cycles c.0 ≡ Some (cycle_record d (cycle_of (skeleton_in d) l))
  row_of_cycle c l i = cycle_row c.0 ∙ ap (option_map (λ l. cycle_record d (cycle_of (skeleton_in d) l))) i

  pub dart_row : (e : DartId) (h : Dart) → IsDart d e h → IsSome (row_at (faces_of d).cycle_of e.0)
  dart_row e h i = is_some_by (row_at (faces_of d).cycle_of e.0) _ (row_of_dart e h i)

  pub row_dart : (e : DartId) → IsSome (row_at (faces_of d).cycle_of e.0) → (h : Dart) × IsDart d e h
  row_dart e h = mapped_value (λ h. cycle_id (cycle_place (skeleton_in d) h)) (slice_get (dart_list (skeleton_in d)) e.0) (subst IsSome (cycle_of_row e.0) h)

  pub cycle_is : (e : DartId) (h : Dart) → IsDart d e h → cycle_in (faces_of d) e ≡ cycle_id (cycle_place (skeleton_in d) h)
  cycle_is e h i = ap cycle_or (row_of_dart e h i)

  pub has_cycle : (c : CycleId) (l : Dart) → IsCycle d c l → HasCycle (faces_of d) c
  has_cycle c l i = is_some_by (row_at (faces_of d).cycles c.0) _ (row_of_cycle c l i)

  pub cycle_by : (c : CycleId) → HasCycle (faces_of d) c → (l : Dart) × IsCycle d c l
  cycle_by c h = mapped_value (λ l. cycle_record d (cycle_of (skeleton_in d) l)) (slice_get (lead_list (skeleton_in d)) c.0) (subst IsSome (cycle_row c.0) h)

  pub kind_is : (c : CycleId) (l : Dart) → IsCycle d c l → kind_in (faces_of d) c ≡ kind_by (odd (skeleton_in d) (dart_labels (darts (skeleton_in d))) l (left_of_dart (skeleton_in d) l))
  kind_is c l i = ap kind_or (row_of_cycle c l i) ∙ ap kind_by (outer_is (skeleton_in d) l)

  pub cycle_face : (c : CycleId) (l : Dart) → IsCycle d c l → face_in (faces_of d) c ≡ left_face d l
  cycle_face c l i = ap face_or (row_of_cycle c l i) ∙ ap (λ f. face_id (rank (subdivision_in d) f)) (face_is (skeleton_in d) l)

  -- ---- faces
  pub has_face : (a : FaceId) → a.0 < length (subdivision_in d).faces → HasFace (faces_of d) a
  unfolding faces_of
  has_face a h = member_in (range_with_len 0 (length (subdivision_in d).faces)) a.0 (in_range 0 (length (subdivision_in d).faces) a.0 (omega arith) (omega arith))

  pub face_within : (a : FaceId) → HasFace (faces_of d) a → a.0 < length (subdivision_in d).faces
  unfolding faces_of
  face_within a h = let k = range_below 0 (length (subdivision_in d).faces) a.0 (in_member _ a.0 h) in omega arith

  -- ---- bare vertices
  abbrev bare_points : List Point
  bare_points = filter (λ p. not (has_dart (skeleton_in d) p)) d.graph.points

  pub bares_are : (subdivision_in d).bare ≡ map (bare_of d) bare_points
  unfolding subdivision
  bares_are = refl

module _ (d : Drawing) (pl : IsPlane d.graph) where
  -- ---- names and places of cycles
  pub is_cycle : (h : Dart) → Member (darts (skeleton_in d)) h → IsCycle d (cycle_id (cycle_place (skeleton_in d) h)) (least_dart_of (skeleton_in d) h)
  is_cycle h m = at_place same_dart darts_exact (lead_list (skeleton_in d)) (least_dart_of (skeleton_in d) h) (lead_listed (skeleton_in d) (plane d pl) h m)

  pub cycle_of_dart : (e : DartId) (h : Dart) → IsDart d e h → IsCycle d (cycle_in (faces_of d) e) (least_dart_of (skeleton_in d) h)
  cycle_of_dart e h i = subst (λ c. IsCycle d c (least_dart_of (skeleton_in d) h)) (sym (cycle_is d e h i)) (is_cycle h (of_darts d pl e h i))

  pub cycle_name : (c : CycleId) (l : Dart) → IsCycle d c l → cycle_id (position_or_len (same_dart l) (lead_list (skeleton_in d))) ≡ c
  cycle_name c l i = ap cycle_id (place_at same_dart darts_exact (lead_list (skeleton_in d)) c.0 l (apart_ascending same_dart darts_exact _ dart_cmp_total (lead_list (skeleton_in d)) (leads_ascend (skeleton_in d) (plane d pl))) i)

  -- ---- bare vertices by name
  pub record IsBare (w : VertexId) (p : Point) : Type 0 where
    pub vertex : IsVertex d w p
    pub alone : has_dart (skeleton_in d) p ≡ false
    pub face : bare_face_in (faces_of d) w ≡ round_face d p

  pub bare_out : (w : VertexId) → HasBareFace (faces_of d) w → (p : Point) × IsBare w p
  unfolding faces_of
  bare_out w h =
      let r = keyed_out (λ (b : Bare). vertex_place (skeleton_in d) b.point) (λ (b : Bare). face_id (rank (subdivision_in d) b.face)) (subdivision_in d).bare w.0 h in
      let m = map_out (bare_of d) (filter (λ p. not (has_dart (skeleton_in d) p)) d.graph.points) r.0 (subst (λ bs. Member bs r.0) (bares_are d) r.1) in
      let f = filter_out (λ p. not (has_dart (skeleton_in d) p)) d.graph.points m.0 m.1 in
      let name : vertex_place (skeleton_in d) m.0 ≡ w.0 = ap (λ b. vertex_place (skeleton_in d) b.point) m.2 ∙ r.2 in (
        m.0,
        record {
          vertex = subst (λ n. slice_get d.graph.points n ≡ Some m.0) name (is_vertex d pl m.0 f.0);
          alone = not-true _ f.1;
          face = ap bare_or r.3 ∙ ap (λ b. face_id (rank (subdivision_in d) b.face)) (sym m.2);
        },
      )

  pub bare_in : (w : VertexId) (p : Point) → IsVertex d w p → has_dart (skeleton_in d) p ≡ false → HasBareFace (faces_of d) w
  unfolding faces_of
  bare_in w p i h =
      let m = filter_in (λ p. not (has_dart (skeleton_in d) p)) d.graph.points p (slice_get_member d.graph.points w.0 p i) (ap not h) in
      keyed_in (λ (b : Bare). vertex_place (skeleton_in d) b.point) (λ (b : Bare). face_id (rank (subdivision_in d) b.face)) (subdivision_in d).bare (bare_of d p) w.0
      (subst (λ bs. Member bs (bare_of d p)) (sym (bares_are d)) (map_in (bare_of d) (filter (λ p. not (has_dart (skeleton_in d) p)) d.graph.points) p m))
      (ap (λ w. w.0) (vertex_name d pl w p i))
