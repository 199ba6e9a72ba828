-- Every dart has a cycle, every cycle a dart and a face, and the vertices without darts, they alone, a face of their own.
use Rattle.std.proofs.Common.{◌≡◌, ℕ, ◌<◌, Bool, true, false, refl, sym, ap, ◌∙◌, subst, inl, inr, List, [], ◌∷◌, map, length, Less}
use Rattle.std.specs.Prelude.{Some, not, ◌||◌, filter}
use Rattle.std.specs.List.{AllByRecursion, Contains, position_or_len}
use Rattle.std.proofs.lemmas.Bool.{false≢true}
use Rattle.exact_plane.specs.Point.{Point}
use Rattle.exact_plane.specs.PointOrder.{point_cmp}
use Rattle.plane_graphs.specs.Graph.{Edge, edges}
use Rattle.plane_graphs.specs.Plane.{IsPlane}
use Rattle.plane_graphs.proofs.Order.{lt_both}
use Rattle.slab_laws.specs.declared.names.DartId.{DartId}
use Rattle.slab_laws.specs.declared.names.FaceId.{FaceId}
use Rattle.slab_laws.specs.declared.names.VertexId.{VertexId}
use Rattle.slab_laws.specs.Skeleton.{Skeleton, same_point}
use Rattle.slab_laws.specs.Darts.{Dart, darts, start, source}
use Rattle.slab_laws.specs.Rotation.{same_dart}
use Rattle.slab_laws.specs.Rows.{dart_list, least_dart_of, lead_list, vertex_place, dart_place, cycle_place}
use Rattle.slab_laws.specs.Subdivision.{Bare, rank, has_dart}
use Rattle.slab_laws.specs.Tables.{names, NamesAscend}
use Rattle.slab_laws.specs.View.{HasFace, IsOutOf, cycle_id, dart_id, vertex_id, face_id, cycle_in}
use Rattle.slab_laws.specs.FacesSound.{IsComplete}
use Rattle.slab_faces.proofs.Member.{Member, member_in, in_member, none_passes, none_passing}
use Rattle.slab_faces.proofs.NextLemmas.{dart_in as dart_there}
use Rattle.subdivision_rows.specs.Listed.{Drawing, skeleton_in, subdivision_in, cycle_record, view_of, faces_of}
use Rattle.slab_faces.proofs.Searches.{range_ascend}
use Rattle.slab_faces.proofs.Parity.{same_point_refl}
use Rattle.slab_faces.proofs.Places.{points_exact}
use Rattle.sound_views.proofs.ListedRows.{slice_get_member, numbered_ascend}
use Rattle.sound_views.proofs.ListedPlaces.{Rising, rising_map, rising_weaker, rising_filter, rising_ascending, not_same, place_order}
use Rattle.sound_views.proofs.ListedDarts.{listed_lead}
use Rattle.subdivision_rows.proofs.ListedRecords.{IsDart, IsVertex, vertex_of, has_vertex, dart_of, has_dart as dart_has_record, source_of, plane, is_dart, of_edges, vertex_name, source_is}
use Rattle.sound_views.proofs.RankedFaces.{rank_within, dart_face, vertex_face}
use Rattle.subdivision_rows.proofs.ListedFaces.{left_face, round_face, bare_of, dart_row, row_dart, cycle_is, has_cycle, cycle_by, cycle_face, has_face, bares_are, cycle_of_dart, cycle_name, IsBare, bare_out, bare_in}

-- ---- names
all_of : (P : ℕ → Type 0) (ns : List ℕ) → ((n : ℕ) → Member ns n → P n) → AllByRecursion P ns
all_of P [] f = tt
all_of P (n ∷ ns) f = (f n (inl refl), all_of P ns (λ m h. f m (inr h)))

names_from : (ns : List ℕ) → Rising (λ m n. m < n) ns → NamesAscend ns
names_from [] a = tt
names_from (n ∷ ns) a = (all_of (λ m. n < m) ns a.0, names_from ns a.1)

-- ---- the ends of edges at a point
no_end : (g : Skeleton) (p : Point) → has_dart g p ≡ false → (e : Edge) (f : Bool) → Contains g.edges e → start e f ≡ p → ⊥
unfolding has_dart
no_end g p h e f E at = by f at (none_passes (λ e. same_point e.low p || same_point e.high p) g.edges h e (in_member g.edges e E))
  where
    either : (a : Bool) → (a || true) ≡ true
    either true = refl
    either false = refl

    by : (f : Bool) → start e f ≡ p → (same_point e.low p || same_point e.high p) ≡ false → ⊥
    by true at n = let s : same_point e.low p ≡ true = subst (λ q. same_point e.low q ≡ true) at (same_point_refl e.low) in false≢true (sym n ∙ ap (λ b. b || same_point e.high p) s)
    by false at n = let s : same_point e.high p ≡ true = subst (λ q. same_point e.high q ≡ true) at (same_point_refl e.high) in false≢true (sym n ∙ ap (λ b. same_point e.low p || b) s ∙ either (same_point e.low p))

is_alone : (g : Skeleton) (p : Point) → ((e : Edge) (f : Bool) → Contains g.edges e → start e f ≡ p → ⊥) → has_dart g p ≡ false
unfolding has_dart
is_alone g p n =
    none_passing (λ e. same_point e.low p || same_point e.high p) g.edges
    (λ e m. let E = member_in g.edges e m in
    let a : same_point e.low p ≡ false = not_same same_point points_exact e.low p (n e true E) in
    let b : same_point e.high p ≡ false = not_same same_point points_exact e.high p (n e false E) in
    ap (λ c. c || same_point e.high p) a ∙ b)

module _ (d : Drawing) (pl : IsPlane d.graph) where
  -- ---- the names ascend
  cycles_ascend : NamesAscend (names (faces_of d).cycles)
  unfolding faces_of
  cycles_ascend = numbered_ascend (map (cycle_record d) (subdivision_in d).cycles) 0

  cycle_of_ascend : NamesAscend (names (faces_of d).cycle_of)
  unfolding faces_of
  cycle_of_ascend = numbered_ascend (map (λ h. cycle_id (cycle_place (skeleton_in d) h)) (dart_list (skeleton_in d))) 0

  faces_ascend : NamesAscend (faces_of d).faces
  unfolding faces_of
  faces_ascend = range_ascend 0 (length (subdivision_in d).faces)

  bares_rise : Rising (λ a b. vertex_place (skeleton_in d) a.point < vertex_place (skeleton_in d) b.point) (subdivision_in d).bare
  bares_rise =
      let ps : List Point = d.graph.points in
      let all : Rising (λ p q. vertex_place (skeleton_in d) p < vertex_place (skeleton_in d) q) ps =
      rising_weaker (λ p q. point_cmp p q ≡ Less) (λ p q. vertex_place (skeleton_in d) p < vertex_place (skeleton_in d) q) ps
      (λ p q h k l. place_order same_point points_exact (λ p q. point_cmp p q ≡ Less) (λ p q l r. lt_both {p = p} {q = q} (record { is = l }) (record { is = r })) ps p q (rising_ascending point_cmp ps pl.points_ascend) h k l) (rising_ascending point_cmp ps pl.points_ascend) in
      let bare = rising_filter (λ p q. vertex_place (skeleton_in d) p < vertex_place (skeleton_in d) q) (λ p. not (has_dart (skeleton_in d) p)) ps all in
      subst (Rising (λ (a b : Bare). vertex_place (skeleton_in d) a.point < vertex_place (skeleton_in d) b.point)) (sym (bares_are d))
      (rising_map (λ p q. vertex_place (skeleton_in d) p < vertex_place (skeleton_in d) q) (λ (a b : Bare). vertex_place (skeleton_in d) a.point < vertex_place (skeleton_in d) b.point) (bare_of d) (filter (λ p. not (has_dart (skeleton_in d) p)) ps) (λ p q _ _ l. l) bare)

  bare_ascend : NamesAscend (names (faces_of d).bare)
  unfolding faces_of
  bare_ascend =
      let row : Bare → ℕ × FaceId = λ b. (vertex_place (skeleton_in d) b.point, face_id (rank (subdivision_in d) b.face)) in
      names_from (names (map (λ (b : Bare). (vertex_place (skeleton_in d) b.point, face_id (rank (subdivision_in d) b.face))) (subdivision_in d).bare))
      (rising_map (λ (r s : ℕ × FaceId). r.0 < s.0) (λ m n. m < n) (λ r. r.0) (map row (subdivision_in d).bare) (λ r s _ _ l. l)
      (rising_map (λ (a b : Bare). vertex_place (skeleton_in d) a.point < vertex_place (skeleton_in d) b.point) (λ (r s : ℕ × FaceId). r.0 < s.0) row (subdivision_in d).bare (λ a b _ _ l. l) bares_rise))

  -- ---- bare vertices
  some_point : (p q : Point) → Some p ≡ Some q → p ≡ q
  some_point p q e = cc

  none_out : (w : VertexId) (p : Point) → IsBare d pl w p → (e : DartId) → IsOutOf (view_of d) w e → ⊥
  none_out w p b e out =
      let h = dart_of d e out.0 in
      let s : IsVertex d w (source h.0) = subst (λ u. IsVertex d u (source h.0)) out.1 (source_is d pl e h.0 h.1) in
      no_end (skeleton_in d) p b.alone h.0.edge h.0.forward (of_edges d pl e h.0 h.1) (some_point (source h.0) p (sym s ∙ b.vertex))

  goes_out : (w : VertexId) (p : Point) → IsVertex d w p → (e : Edge) (f : Bool) → Contains (edges d.graph) e → start e f ≡ p → (x : DartId) × IsOutOf (view_of d) w x
  goes_out w p i e f E at =
      let h : Dart = record { edge = e; forward = f } in
      let n = is_dart d pl h (dart_there (skeleton_in d) e f E) in
      let x : DartId = dart_id (dart_place (skeleton_in d) h) in
      (x, (dart_has_record d x h n, source_of d x h n ∙ ap (λ q. vertex_id (vertex_place (skeleton_in d) q)) at ∙ vertex_name d pl w p i))

  -- ---- the cycle of a least dart
  own_dart : (l : Dart) → Member (lead_list (skeleton_in d)) l → IsDart d (dart_id (dart_place (skeleton_in d) l)) l × (cycle_in (faces_of d) (dart_id (dart_place (skeleton_in d) l)) ≡ cycle_id (position_or_len (same_dart l) (lead_list (skeleton_in d))))
  own_dart l m =
      let k = listed_lead (skeleton_in d) (plane d pl) l m in
      let i = is_dart d pl l k.0 in
      (i, cycle_is d (dart_id (dart_place (skeleton_in d) l)) l i ∙ ap (λ x. cycle_id (position_or_len (same_dart x) (lead_list (skeleton_in d)))) k.1)

  lead_has_face : (l : Dart) → Member (darts (skeleton_in d)) l → HasFace (faces_of d) (left_face d l)
  lead_has_face l m = has_face d (left_face d l) (rank_within (skeleton_in d) _ (dart_face (skeleton_in d) (plane d pl) l m))

  pub complete : IsComplete (view_of d) (faces_of d)
  complete = record {
    cycles_ascend = cycles_ascend;
    faces_ascend = faces_ascend;
    cycle_of_ascend = cycle_of_ascend;
    bare_ascend = bare_ascend;
    cycle_rows = λ e. (λ has. let h = dart_of d e has in dart_row d e h.0 h.1, λ has. let h = row_dart d e has in dart_has_record d e h.0 h.1);
    cycle_has = λ e has. let h = dart_of d e has in has_cycle d (cycle_in (faces_of d) e) (least_dart_of (skeleton_in d) h.0) (cycle_of_dart d pl e h.0 h.1);
    dart_has = λ c has.
        let l = cycle_by d c has in
        let o = own_dart l.0 (slice_get_member (lead_list (skeleton_in d)) c.0 l.0 l.1) in
        let e : DartId = dart_id (dart_place (skeleton_in d) l.0) in
        (e, dart_has_record d e l.0 o.0, o.1 ∙ cycle_name d pl c l.0 l.1);
    face_has = λ c has.
        let l = cycle_by d c has in
        let m = listed_lead (skeleton_in d) (plane d pl) l.0 (slice_get_member (lead_list (skeleton_in d)) c.0 l.0 l.1) in
        subst (HasFace (faces_of d)) (sym (cycle_face d c l.0 l.1)) (lead_has_face l.0 m.0);
    bare = λ w has.
        let p = vertex_of d w has in (
          λ b. let q = bare_out d pl w b in none_out w q.0 q.1,
          λ none. bare_in d pl w p.0 p.1 (is_alone (skeleton_in d) p.0 (λ e f E at. let x = goes_out w p.0 p.1 e f E at in none x.0 x.1)),
        );
    bare_vertex = λ w b. let q = bare_out d pl w b in has_vertex d w q.0 q.1.vertex;
    bare_has = λ w b.
        let q = bare_out d pl w b in
        let m = slice_get_member d.graph.points w.0 q.0 q.1.vertex in
        subst (HasFace (faces_of d)) (sym q.1.face) (has_face d (round_face d q.0) (rank_within (skeleton_in d) _ (vertex_face (skeleton_in d) (plane d pl) q.0 m)));
  }
