-- What is at an end of a part that meets nothing tells its face, and what is at the other end is on this face's boundary.
use Rattle.std.proofs.Common.{◌≡◌, ◌≢◌, ◌⊎◌, Bool, true, false, not, Some, None, arith, refl, sym, ap, ◌∙◌, subst, inl, inr}
use Rattle.std.specs.Prelude.{pos, ◌-ℤ◌, ◌*ℤ◌}
use Rattle.std.specs.List.{Contains}
use Rattle.std.proofs.lemmas.Int.{ints, by_lt_z}
use Rattle.exact_plane.specs.Point.{Point}
use Rattle.plane_graphs.specs.Graph.{Edge}
use Rattle.plane_graphs.specs.Line.{IsProper}
use Rattle.plane_graphs.proofs.Lists.{clash}
use Rattle.plane_graphs.proofs.Lines.{span_runs}
use Rattle.plane_graphs.proofs.Marks.{Le, le_lt_lt, lt_le_lt}
use Rattle.plane_graphs.proofs.Order.{Lt, lt_trans, Tri, less, same, more, tri}
use Rattle.slab_laws.specs.declared.names.DartId.{DartId}
use Rattle.slab_laws.specs.declared.names.FaceId.{FaceId}
use Rattle.slab_laws.specs.declared.names.VertexId.{VertexId}
use Rattle.slab_laws.specs.Cycles.{left_of_dart}
use Rattle.slab_laws.specs.Darts.{Dart, target, start}
use Rattle.slab_laws.specs.FacesSound.{IsSound}
use Rattle.slab_laws.specs.Meets.{SameFace}
use Rattle.slab_laws.specs.Rotation.{twin}
use Rattle.slab_laws.specs.Skeleton.{inside, side, same_point}
use Rattle.slab_laws.specs.Slabs.{left_cell}
use Rattle.slab_laws.specs.Sound.{skeleton_of, edge_between, edge_in, dart_in, IsGraphSound}
use Rattle.slab_laws.specs.View.{View, Faces, HasVertex, HasDart, HasFace, HasBareFace, point_in, twin_in, target_in, cycle_in, face_in, bare_face_in}
use Rattle.slab_laws.specs.Faces.{cells, face_labels, face_of}
use Rattle.slab_faces.specs.PointLaws.{IsApart}
use Rattle.slab_faces.proofs.FacesLemmas.{one_face}
use Rattle.slab_faces.proofs.Member.{member_in}
use Rattle.slab_faces.proofs.PlaneGraphs.{one_point}
use Rattle.slab_faces.proofs.Parity.{same_point_is, same_point_refl}
use Rattle.slab_faces.proofs.WallsLemmas.{cell_there}
use Rattle.std.proofs.lemmas.Bool.{cases_Bool, false≢true}
use Rattle.slab_faces.proofs.Walls.{side-lower, side-upper}
use Rattle.slab_faces.proofs.Turns.{face_trans, face_sym}
use Rattle.sound_views.proofs.NamedDarts.{names_are_darts, edge_known, known_edge}
use Rattle.rotation_order.specs.VertexRings.{IsBare}
use Rattle.sound_changes.proofs.PointInside.{IsInside, inside_out, inside_in}
use Rattle.sound_changes.specs.EdgePlaces.{dart_between, IsPlaceFor}
use Rattle.sound_changes.proofs.KnownNames.{points_proper, points_ascend, edges_ascend, point_known, known_point}
use Rattle.sound_changes.proofs.Collinear.{flat_on_line}
use Rattle.face_steps.specs.FaceAhead.{IsSeenFrom}
use Rattle.face_steps.specs.VertexSteps.{IsFaceRound}
use Rattle.face_steps.proofs.FaceAhead.{faces_ahead}
use Rattle.dcel_records.specs.Spots.{IsInFace}
use Rattle.zone_walk.specs.Parts.{IsClearBetween, IsFaceBetween, IsOnSide, TellsFace, at_vertex, in_edge, in_face, HasDartInto, IsOnBoundary}
use Rattle.zone_walk.specs.PartLaws.{FacesAreTold, PartsHaveAFace, PartsHaveOneFace, PartsNameOneFace, FirstReachedIsOnBoundary}
use Rattle.zone_walk.proofs.Between.{IsNearer, nearer, up_edge, down_edge, both_ways, some_between, on_one_line, both_within}
use Rattle.zone_walk.proofs.MorePoints.{IsListedPlane}
use Rattle.zone_walk.proofs.OnTheWay.{told_there}
use Rattle.zone_walk.proofs.FromFaces.{from_face}
use Rattle.zone_walk.proofs.FromEdges.{from_edge}
use Rattle.zone_walk.proofs.FromVertices.{before_it}
use Rattle.face_changes.specs.FacesByPairs.{Item, outside, beside, round, HasItem, cell_at, name_at, first_or}
use Rattle.face_changes.proofs.FacesByPairs.{first_least, has_name, told_by_pairs}
use Rattle.face_changes.proofs.LinkedCycles.{dart_there}

module _ (v : View) (s : IsGraphSound v) where
  drawn : IsListedPlane (skeleton_of v)
  drawn = record { points = points_ascend v; edges = edges_ascend v; proper = points_proper v s; plane = s.plane }

  apart : (r : Point) → IsProper r → IsInFace v r → IsApart (skeleton_of v) r
  apart r R k = record {
    from_vertices = λ p V a b. let w = known_point v s.named p V in k.no_vertex w.0 w.1 (sym w.2 ∙ one_point p r (points_proper v s p V) R a b);
    from_edges = λ e E. let d = known_edge v e E in subst (λ (z : Edge). inside z r ≡ false) (sym d.2) (k.no_edge d.0 d.1);
  }

  -- a point that p sees lies in the face that is told towards it
  sees_face : (f : Faces) (p t : Point) (face : FaceId) → IsProper p → IsProper t → p ≢ t → IsSeenFrom (skeleton_of v) p t → TellsFace v f p t face → IsFaceRound v f face t
  sees_face f p t _ P T n seen (at_vertex u at has e k) = faces_ahead v f u at t s has T (subst (λ y. IsPlaceFor v u at (dart_between y t)) (sym e) k) (subst (λ y. IsSeenFrom (skeleton_of v) y t) (sym e) seen)
  sees_face f p t _ P T n seen (in_edge d has j k) = (beside d, has, refl, from_edge (skeleton_of v) drawn (edge_in v d) (edge_known v d has) p P j t T n (dart_in v d).forward k seen)
  sees_face f p t face P T n seen (in_face face' k r) = (r.0, r.1, r.2, face_trans (skeleton_of v) _ _ _ r.3 (from_face (skeleton_of v) drawn p P (apart p P k) t T n seen))

  module _ (f : Faces) (p q : Point) (P : IsProper p) (Q : IsProper q) (clear : IsClearBetween v p q) (t : Point) (T : IsProper t) (i : inside (edge_between p q) t ≡ true) where
    n : IsNearer p q t
    n = nearer p q t P Q T i

    seen : IsSeenFrom (skeleton_of v) p t
    seen = record { off = apart t T (clear t T i); between = λ r R j. apart r R (clear r R (n.within r R j)) }

    told : (face : FaceId) → TellsFace v f p q face → IsFaceRound v f face t
    told face k = sees_face f p t face P T n.apart seen (told_there v s p q t P Q T i f face k)

pub parts_have_one_face : PartsHaveOneFace
parts_have_one_face v f p q face s P Q clear k t T i = told v s f p q P Q clear t T i face k

told_is_there : (v : View) (f : Faces) (p q : Point) (face : FaceId) → IsSound v f → TellsFace v f p q face → HasFace f face
told_is_there v f p q _ s (at_vertex u None has e k) = s.complete.bare_has u ((s.complete.bare u has).1 k)
told_is_there v f p q _ s (at_vertex u (Some a) has e k) = s.complete.face_has (cycle_in f (twin_in v a)) (s.complete.cycle_has (twin_in v a) (s.graph.twinned.has a k.0.0))
told_is_there v f p q _ s (in_edge d has j k) = s.complete.face_has (cycle_in f d) (s.complete.cycle_has d has)
told_is_there v f p q face s (in_face face' k r) = subst (HasFace f) r.2 (has_name v f s.complete (told_by_pairs v f s).there r.0 r.1)

pub faces_are_told : FacesAreTold
faces_are_told = record { nearer = λ v f p z q face s P Z Q i k. told_there v s p z q P Z Q i f face k; has = told_is_there }

-- ---- there is such a face
-- the cell of a thing has the label of the face that its name stands for
cell_is : (v : View) (f : Faces) (s : IsSound v f) (i : Item) → HasItem v i → s.faced.0 (name_at f i) ≡ face_of (face_labels (skeleton_of v)) (cell_at v i)
cell_is v f s outside h = (s.faced.1.unbounded (first_or f.faces) (told_by_pairs v f s).there (λ b B l. let k = first_least f.faces b.0 s.complete.faces_ascend B in absurd (omega arith))).0
cell_is v f s (beside d) h = s.faced.1.darts d h
cell_is v f s (round w) h = s.faced.1.bare w ((s.complete.bare w h.0).1 h.1)

some_face : (v : View) (f : Faces) (t : Point) → IsSound v f → IsProper t → (a : FaceId) × HasFace f a × IsFaceRound v f a t
some_face v f t s T =
    let a = s.faced.1.all (left_cell (skeleton_of v) t) (member_in (cells (skeleton_of v)) _ (cell_there (skeleton_of v) t s.graph.plane T.positive)) in
    let i = (told_by_pairs v f s).all a.0 a.1 in
    (a.0, a.1, (i.0, i.1, i.2, one_face (skeleton_of v) (cell_at v i.0) (left_cell (skeleton_of v) t) s.graph.plane (sym (cell_is v f s i.0 i.1) ∙ ap s.faced.0 i.2 ∙ a.2)))

pub parts_have_a_face : PartsHaveAFace
parts_have_a_face v f p q s P Q n clear =
    let m = some_between p q P Q n in
    let a = some_face v f m.0 s m.1 in (
      a.0,
      a.1,
      λ t T i. elim (choose_point m.0 t) [
        | inl e ↦ subst (IsFaceRound v f a.0) e a.2
        | inr ne ↦ sees_face v s.graph f m.0 t a.0 m.1 T ne
            (record { off = apart v s.graph t T (clear t T i); between = λ r R j. apart v s.graph r R (clear r R (both_within p q m.0 t r P Q m.1 T R m.2 i j)) })
            (in_face a.0 (clear m.0 m.1 m.2) a.2)
      ],
    )
  where
    choose_point : (x y : Point) → (x ≡ y) ⊎ (x ≢ y)
    choose_point x y = elim (cases_Bool (same_point x y)) [ inl k ↦ inl (same_point_is x y k) | inr k ↦ inr (λ e. false≢true (sym k ∙ subst (λ z. same_point x z ≡ true) e (same_point_refl x))) ]

-- ---- what is at the end
module _ (v : View) (f : Faces) (s : IsSound v f) where
  one_name : (a b : FaceId) (t : Point) → IsFaceRound v f a t → IsFaceRound v f b t → a ≡ b
  one_name a b t k l = sym k.2 ∙ ((told_by_pairs v f s).same k.0 l.0 k.1 l.1).1 (face_trans (skeleton_of v) _ _ _ k.3 (face_sym (skeleton_of v) _ _ l.3)) ∙ l.2

  module _ (p q : Point) (P : IsProper p) (Q : IsProper q) (n : p ≢ q) (clear : IsClearBetween v p q) where
    back : IsClearBetween v q p
    back t T i = clear t T (subst (λ (e : Edge). inside e t ≡ true) (sym (both_ways p q n)) i)

    one_between : (a b : FaceId) → IsFaceBetween v f p q a → TellsFace v f q p b → b ≡ a
    one_between a b k l =
        let w = some_between p q P Q n in
        one_name b a w.0 (told v s.graph f q p Q P back w.0 w.1 (subst (λ (e : Edge). inside e w.0 ≡ true) (both_ways p q n) w.2) b l) (k w.0 w.1 w.2)

    module _ (face : FaceId) (k : IsFaceBetween v f p q face) where
      vertex : (w : VertexId) → HasVertex v w → point_in v w ≡ q → (HasBareFace f w × (bare_face_in f w ≡ face)) ⊎ HasDartInto v f w face
      vertex w has e = elim (before_it (skeleton_of v) (drawn v s.graph) q t.0 V t.1 sees) [
        | inl none ↦
            let bare : IsBare v w = λ d out. none (dart_in v d) (edge_known v d out.0) (names_are_darts.source v d s.graph out.0 ∙ ap (point_in v) out.1 ∙ e) in
            inl ((s.complete.bare w has).1 bare, one_between face (bare_face_in f w) k (at_vertex w None has e bare))
        | inr d ↦
            let z = names_are_darts.there v d.0 s.graph (dart_there (skeleton_of v) d.0 d.1) in
            inr (record {
              dart = z.0;
              has = z.1;
              into = s.graph.drawn.points (target_in v z.0) w (s.graph.linked.source (twin_in v z.0) (s.graph.twinned.has z.0 z.1)) has (sym (names_are_darts.target v z.0 s.graph z.1) ∙ ap target z.2 ∙ d.2 ∙ sym e);
              left = one_name (face_in f (cycle_in f z.0)) face t.0 (beside z.0, z.1, refl, subst (λ (y : Dart). SameFace (skeleton_of v) (left_of_dart (skeleton_of v) y) (left_cell (skeleton_of v) t.0)) (sym z.2) d.3) (k t.0 t.1 t.2);
            })
      ]
        where
          t : (r : Point) × IsProper r × (inside (edge_between p q) r ≡ true)
          t = some_between p q P Q n

          V : Contains (skeleton_of v).vertices q
          V = subst (Contains (skeleton_of v).vertices) e (point_known v s.graph.named w has)

          sees : IsSeenFrom (skeleton_of v) q t.0
          sees = seen v s.graph f q p Q P back t.0 t.1 (subst (λ (e : Edge). inside e t.0 ≡ true) (both_ways p q n) t.2)

      -- an edge that has the end inside lies on no line with the part: a point of the part would be in it
      module _ (d : DartId) (D : HasDart v d) (i : inside (edge_in v d) q ≡ true) where
        abbrev e : Edge
        e = edge_in v d

        E : Contains (skeleton_of v).edges e
        E = edge_known v d D

        L : IsProper e.low
        L = points_proper v s.graph e.low (s.graph.plane.lower_in e E)

        H : IsProper e.high
        H = points_proper v s.graph e.high (s.graph.plane.upper_in e E)

        within : IsInside e q
        within = inside_out e q L H Q i

        -- w is the part, lesser end first; both its ends and so all its points are on the edge's line
        module _ (w : Edge) (WL : IsProper w.low) (WH : IsProper w.high) (ordered : Lt w.low w.high) (is : edge_between p q ≡ w) (a : side e w.low ≡ pos 0) (b : side e w.high ≡ pos 0) (low : Lt e.low w.high) (high : Lt w.low e.high) where
          on_part : (r : Point) → side e r ≡ pos 0 → side w r ≡ pos 0
          unfolding side
          on_part r z =
              flat_on_line (record { a = e.low.y *ℤ e.high.w -ℤ e.high.y *ℤ e.low.w; b = e.high.x *ℤ e.low.w -ℤ e.low.x *ℤ e.high.w; c = e.low.x *ℤ e.high.y -ℤ e.high.x *ℤ e.low.y })
              w.low w.high r (span_runs e.low e.high L H (lt_trans within.after within.before)) a b z

          inner : (r : Point) → IsProper r → Lt w.low r → Lt r w.high → side e r ≡ pos 0 → IsInFace v r
          inner r R x y z = clear r R (subst (λ (u : Edge). inside u r ≡ true) (sym is) (inside_in w r WL WH R (record { after = x; before = y; on = on_part r z })))

          no_end : (b : Bool) → Lt w.low (start e b) → Lt (start e b) w.high → ⊥
          no_end true x y = let u = known_point v s.graph.named e.low (s.graph.plane.lower_in e E) in (inner e.low L x y (side-lower e)).no_vertex u.0 u.1 (sym u.2)
          no_end false x y = let u = known_point v s.graph.named e.high (s.graph.plane.upper_in e E) in (inner e.high H x y (side-upper e)).no_vertex u.0 u.1 (sym u.2)

          never : ⊥
          never =
              let t = some_between p q P Q n in
              let j = inside_out w t.0 WL WH t.1 (subst (λ (u : Edge). inside u t.0 ≡ true) is t.2) in
              let on : side e t.0 ≡ pos 0 = on_one_line w t.0 WL WH t.1 (subst (λ (u : Edge). inside u t.0 ≡ true) is t.2) e a b in
              let low' : Le e.low w.low = record { never = λ x. no_end true x low } in
              let high' : Le w.high e.high = record { never = λ x. no_end false high x } in
              clash (inside_in e t.0 L H t.1 (record { after = le_lt_lt low' j.after; before = lt_le_lt j.before high'; on = on })) ((clear t.0 t.1 t.2).no_edge d D)

        off_line : side e p ≡ pos 0 → ⊥
        off_line z = by (tri p q)
          where
            by : Tri p q → ⊥
            by (less l) = never (record { low = p; high = q }) P Q l (up_edge p q l) z within.on within.after (lt_trans l within.before)
            by (same k) = n k
            by (more l) = never (record { low = q; high = p }) Q P l (down_edge p q l) within.on z (lt_trans within.after l) within.before

        twin_is : dart_in v (twin_in v d) ≡ twin (dart_in v d)
        twin_is = names_are_darts.twin v d s.graph D

        there : IsOnSide (edge_in v d) (dart_in v d).forward p → (face_in f (cycle_in f d) ≡ face) ⊎ (face_in f (cycle_in f (twin_in v d)) ≡ face)
        there x = inl (one_between face _ k (in_edge d D i x))

        other : IsOnSide (edge_in v d) (not (dart_in v d).forward) p → (face_in f (cycle_in f d) ≡ face) ⊎ (face_in f (cycle_in f (twin_in v d)) ≡ face)
        other x =
            let t = twin_in v d in
            let y = subst (λ (z : Dart). IsOnSide z.edge z.forward p) (sym twin_is) x in
            inr (one_between face _ k (in_edge t (s.graph.twinned.has d D) (subst (λ (z : Dart). inside z.edge q ≡ true) (sym twin_is) i) y))

        sides : (b c : Bool) → (dart_in v d).forward ≡ c → IsOnSide e b p → (face_in f (cycle_in f d) ≡ face) ⊎ (face_in f (cycle_in f (twin_in v d)) ≡ face)
        sides true true z x = there (subst (λ c. IsOnSide e c p) (sym z) x)
        sides false false z x = there (subst (λ c. IsOnSide e c p) (sym z) x)
        sides true false z x = other (subst (λ c. IsOnSide e (not c) p) (sym z) x)
        sides false true z x = other (subst (λ c. IsOnSide e (not c) p) (sym z) x)

        edge : (face_in f (cycle_in f d) ≡ face) ⊎ (face_in f (cycle_in f (twin_in v d)) ≡ face)
        edge =
            by_lt_z (pos 0) (side e p)
            (λ x. sides true (dart_in v d).forward refl x)
            (λ x. by_lt_z (side e p) (pos 0) (λ y. sides false (dart_in v d).forward refl y) (λ y. absurd (off_line (omega (arith, ints)))))

      inner_point : IsInFace v q → IsFaceRound v f face q
      inner_point there =
          let t = some_between p q P Q n in
          let r = k t.0 t.1 t.2 in
          let sees = seen v s.graph f q p Q P back t.0 t.1 (subst (λ (e : Edge). inside e t.0 ≡ true) (both_ways p q n) t.2) in
          let apart_too : q ≢ t.0 = (nearer q p t.0 Q P t.1 (subst (λ (e : Edge). inside e t.0 ≡ true) (both_ways p q n) t.2)).apart in
          (r.0, r.1, r.2, face_trans (skeleton_of v) _ _ _ r.3 (face_sym (skeleton_of v) _ _ (from_face (skeleton_of v) (drawn v s.graph) q Q (apart v s.graph q Q there) t.0 t.1 apart_too sees)))

      pub on_boundary : IsOnBoundary v f q face
      on_boundary = record { vertex = vertex; edge = edge; inner = inner_point }

pub first_reached_is_on_boundary : FirstReachedIsOnBoundary
first_reached_is_on_boundary v f p q face s P Q n clear k = on_boundary v f s p q P Q n clear face k

pub parts_name_one_face : PartsNameOneFace
parts_name_one_face v f p q a b s P Q n clear k l = sym (one_between v f s p q P Q n clear a b (parts_have_one_face v f p q a s.graph P Q clear k) l)
