-- What is taken of sound records: the vertices on the boundaries of the unbounded face, among them all that are on an envelope; and edges that aren't vertical, all those that are outermost in a slab.
use Rattle.std.proofs.Common.{◌≡◌, ℕ, ◌<◌, Bool, true, false, arith, refl, sym, ap, subst, ◌∙◌, inl, inr, List, [], ◌∷◌, length, map, get_or, Ordering, Less, Equal, Greater}
use Rattle.std.specs.Prelude.{◌*ℤ◌, Some, None}
use Rattle.std.specs.List.{Contains, AllByRecursion}
use Rattle.std.specs.Option.{option_map}
use Rattle.std.proofs.lemmas.Bool.{and_parts, and_from, eq-eqb}
use Rattle.std.proofs.lemmas.Int.{ints}
use Rattle.std.proofs.lemmas.List.{get_or-map, length-map}
use Rattle.integers.proofs.Compare.{equal_out, greater_out}
use Rattle.exact_plane.specs.Point.{Point}
use Rattle.exact_plane.specs.PointOrder.{by_x, weight}
use Rattle.exact_plane.specs.Span.{Span}
use Rattle.exact_plane.proofs.Places.{weight-is}
use Rattle.plane_graphs.specs.Ascending.{Member}
use Rattle.plane_graphs.specs.Graph.{Edge}
use Rattle.plane_graphs.specs.Line.{precedes}
use Rattle.plane_graphs.proofs.Ascending.{All-member, from_member, to_member}
use Rattle.plane_graphs.proofs.Lists.{in_map, of_map}
use Rattle.plane_graphs.proofs.Sorting.{all_members, member_at}
use Rattle.slab_laws.specs.declared.names.DartId.{DartId}
use Rattle.slab_laws.specs.declared.names.FaceId.{FaceId}
use Rattle.slab_laws.specs.Cycles.{left_of_dart}
use Rattle.slab_laws.specs.Darts.{Dart, darts, source, start}
use Rattle.slab_laws.specs.Faces.{face_labels, face_of}
use Rattle.slab_laws.specs.FacesSound.{IsSound}
use Rattle.slab_laws.specs.Rotation.{twin}
use Rattle.slab_laws.specs.Skeleton.{HasWeight, left_of}
use Rattle.slab_laws.specs.Sound.{IsGraphSound, skeleton_of, dart_in, edge_in}
use Rattle.slab_laws.specs.SpansDrawn.{edge_of}
use Rattle.slab_laws.specs.Subdivision.{first_cell, has_dart}
use Rattle.slab_laws.specs.Tables.{name_after, NamesAscend}
use Rattle.slab_laws.specs.View.{View, Faces, HasDart, HasFace, HasVertex, dart_id, face_id, point_in, source_in, target_in, twin_in, next_in, cycle_in, face_in, face_after_in}
use Rattle.slab_faces.proofs.FacesLemmas.{one_label}
use Rattle.slab_faces.proofs.Member.{member_in}
use Rattle.slab_faces.proofs.NextLemmas.{dart_in as dart_there, start_in}
use Rattle.slab_faces.proofs.Outside.{to_first}
use Rattle.arr_notes.specs.Curves.{IsForward}
use Rattle.sound_views.proofs.GraphDrawn.{between_forward}
use Rattle.sound_views.proofs.NamedDarts.{names_are_darts, edge_known, source_by}
use Rattle.boundary_cycles.proofs.NamedWalks.{lead_step}
use Rattle.record_orders.specs.declared.vertices.VertexKey.{VertexKey}
use Rattle.envelope_laws.specs.declared.which.Which.{Which}
use Rattle.envelope_laws.specs.declared.which.Which.TheVariants.{Lower, Upper}
use Rattle.envelope_laws.specs.Envelopes.{is_extreme}
use Rattle.envelope_laws.specs.Outermost.{IsOutermostIn}
use Rattle.envelope_laws.proofs.Steps.{low_held, high_held}
use Rattle.envelope_laws.proofs.Unbounded.{outward, near_wall, outermost_faces_outside}
use Rattle.lower_envelope.specs.Slabs.{span_at, nowhere}
use Rattle.lower_envelope.specs.Edges.{is_rightward, is_named, outward_in, is_offered, IsOuterDart, AreOffered, IsInOrder}
use Rattle.lower_envelope.specs.Corners.{AreOuterEnds, source_key}
use Rattle.lower_envelope.proofs.Numbers.{place_in}
use Rattle.lower_envelope.proofs.Bordering.{bordering}
use Rattle.lower_envelope.proofs.OuterEnds.{AreEnds}
use Rattle.lower_envelope.proofs.Tied.{AreEdgesOf}

-- a point on the left comes before
left_precedes : (p q : Point) → HasWeight p → HasWeight q → left_of p q ≡ true → precedes p q ≡ true
unfolding left_of
left_precedes p q P Q h = go (by_x p q) refl
  where
    go : (o : Ordering) → by_x p q ≡ o → precedes p q ≡ true
    go Less e = rw e refl
    go Equal e = let l = equal_out (p.x *ℤ weight q.w) (q.x *ℤ weight p.w) e in let a = weight-is p.w P in let b = weight-is q.w Q in let l' = rw (a, b) at l in absurd (omega (arith, ints))
    go Greater e = let l = greater_out (p.x *ℤ weight q.w) (q.x *ℤ weight p.w) e in let a = weight-is p.w P in let b = weight-is q.w Q in let l' = rw (a, b) at l in absurd (omega (arith, ints))

-- of names that ascend the first is the least
first_least : (ns : List ℕ) (m : ℕ) → NamesAscend ns → Member m ns → (n : ℕ) × (name_after ns None ≡ Some n) × Member n ns × ((k : ℕ) → Member k ns → k < n → ⊥)
unfolding name_after
first_least [] m h i = absurd i
first_least (n ∷ ns) m h i = (n, refl, inl refl, none)
  where
    none : (k : ℕ) → Member k (n ∷ ns) → k < n → ⊥
    none k (inl e) l = absurd (omega arith)
    none k (inr j) l = let more : n < k = All-member (λ x. n < x) k ns h.0 j in absurd (omega arith)

module _ (v : View) (s : IsGraphSound v) where
  source_weight : (d : DartId) → HasDart v d → HasWeight (point_in v (source_in v d))
  source_weight d has = (s.drawn.proper (source_in v d) (s.linked.source d has)).positive

  target_weight : (d : DartId) → HasDart v d → HasWeight (point_in v (target_in v d))
  target_weight d has = (s.drawn.proper (target_in v d) (s.linked.source _ (s.twinned.has d has))).positive

  -- a dart that goes to the right goes forward along its edge
  pub right_forward : (d : DartId) → HasDart v d → is_rightward v d ≡ true → IsForward v d
  right_forward d has r = (has, left_precedes (point_in v (source_in v d)) (point_in v (target_in v d)) (source_weight d has) (target_weight d has) r)

  -- so do those on offer
  pub offered_forward : (w : Which) (f : Faces) (ds : List DartId) → AreOffered w v f ds → AllByRecursion (λ d. IsForward v d) ds
  offered_forward w f ds on =
      all_members (λ d. IsForward v d) ds
      (λ d m. let r = on.are d m in right_forward d r.0 (and_parts (is_rightward v d) (is_named (face_after_in f None) (face_in f (cycle_in f (outward_in w v d)))) r.1).0)

  right_edge : (d : DartId) → HasDart v d → is_rightward v d ≡ true → edge_in v d ≡ record { low = point_in v (source_in v d); high = point_in v (target_in v d) }
  right_edge d has r = between_forward (point_in v (source_in v d)) (point_in v (target_in v d)) (right_forward d has r).1

  -- a face with the first cell is the first by name
  first_named : (f : Faces) (S : IsSound v f) (a : FaceId) → HasFace f a → S.faced.0 a ≡ face_of (face_labels (skeleton_of v)) first_cell → is_named (face_after_in f None) a ≡ true
  first_named f S a has is =
      let by = S.faced.1 in
      let least = first_least f.faces a.0 S.complete.faces_ascend (to_member f.faces a.0 has) in
      let first = face_id least.0 in
      let there = from_member f.faces least.0 least.2 in
      let none : (b : FaceId) → HasFace f b → b.0 < least.0 → ⊥ = λ b c l. least.3 b.0 (to_member f.faces b.0 c) l in
      let same = by.differ a first has there (is ∙ sym (by.unbounded first there none).0) in
      ap (λ o. is_named (option_map face_id o) a) least.1 ∙ eq-eqb a.0 least.0 (ap (λ x. x.0) same)

  outward_drawn : (w : Which) (d : DartId) (e : Edge) → HasDart v d → dart_in v d ≡ record { edge = e; forward = true } → HasDart v (outward_in w v d) × (dart_in v (outward_in w v d) ≡ outward w e)
  outward_drawn Lower d e has is = (s.twinned.has d has, names_are_darts.twin v d s has ∙ ap twin is)
  outward_drawn Upper d e has is = (has, is)

  -- the dart of an edge that is outermost in a slab is offered
  offered_there : (w : Which) (f : Faces) (S : IsSound v f) (i : ℕ) (e : Edge) (d : DartId) → IsOutermostIn w (skeleton_of v) i e → HasDart v d → dart_in v d ≡ record { edge = e; forward = true } → is_rightward v d ≡ true → is_offered w v f (face_after_in f None) d ≡ true
  offered_there w f S i e d o has is r =
      let g = skeleton_of v in
      let t = outward_drawn w d e has is in
      let c = outward_in w v d in
      let out = outermost_faces_outside w g i e s.plane o in
      let label = one_label g first_cell (left_of_dart g (outward w e)) s.plane out in
      let cell : S.faced.0 (face_in f (cycle_in f c)) ≡ face_of (face_labels g) first_cell = S.faced.1.darts c t.0 ∙ ap (λ h. face_of (face_labels g) (left_of_dart g h)) t.1 ∙ sym label in
      and_from _ _ r (first_named f S (face_in f (cycle_in f c)) (S.complete.face_has (cycle_in f c) (S.complete.cycle_has c t.0)) cell)

  -- ---- darts on the boundaries of the unbounded face
  -- the next one is there too
  next_outer : (f : Faces) → IsSound v f → (d : DartId) → IsOuterDart v f d → IsOuterDart v f (next_in v d)
  next_outer f S d o =
      let there = s.linked.has d o.0 in
      let same = (S.cycled.orbits (next_in v d) d there o.0).1 (lead_step v s d o.0) in
      (there, subst (λ c. is_named (face_after_in f None) (face_in f c) ≡ true) (sym same) o.1)

  -- the point that it leaves is an end of an edge
  source_is : (d : DartId) → source (dart_in v d) ≡ point_in v (source_in v d)
  source_is d = source_by (point_in v (source_in v d)) (point_in v (target_in v d))

  source_end : (d : DartId) → HasDart v d → Contains (skeleton_of v).vertices (point_in v (source_in v d)) × (has_dart (skeleton_of v) (point_in v (source_in v d)) ≡ true)
  source_end d has =
      let g = skeleton_of v in
      let h = dart_in v d in
      let E = edge_known v d has in
      subst (λ p. Contains g.vertices p × (has_dart g p ≡ true)) (source_is d) (start_in g h.edge h.forward s.plane E, held h.edge h.forward E)
    where
      held : (e : Edge) (b : Bool) → Contains (skeleton_of v).edges e → has_dart (skeleton_of v) (start e b) ≡ true
      held e true E = low_held (skeleton_of v) e E
      held e false E = high_held (skeleton_of v) e E

  module _ (f : Faces) (S : IsSound v f) (ks : List VertexKey) (h : AreOuterEnds v f ks) where
    -- a vertex that is listed, and its point
    pub key_out : (k : VertexKey) → Member k ks → HasVertex v k.name × (k.point ≡ point_in v k.name)
    key_out k m =
        let r = (h.just k).0 m in
        let q = r.2 in
        (subst (HasVertex v) (sym (ap (λ x. x.name) q)) (s.linked.source r.0 r.1.0), ap (λ x. x.point) q ∙ ap (λ x. point_in v x.name) (sym q))

    point_end : (p : Point) → Member p (map (λ k. k.point) ks) → Contains (skeleton_of v).vertices p × (has_dart (skeleton_of v) p ≡ true)
    point_end p m =
        let k = of_map (λ k. k.point) p ks m in
        let r = (h.just k.0).0 k.1 in
        subst (λ q. Contains (skeleton_of v).vertices q × (has_dart (skeleton_of v) q ≡ true)) (sym (k.2 ∙ ap (λ x. x.point) r.2)) (source_end r.0 r.1.0)

    pub are_ends : AreEnds (skeleton_of v) (map (λ k. k.point) ks)
    are_ends = record { plane = s.plane; ascends = h.ascend; are = point_end }

    pub ends_in_order : IsInOrder (map (λ k. k.point) ks)
    ends_in_order = record { ascends = h.ascend; proper = λ p m. s.plane.proper p (point_end p m).0 }

    outer_listed : (d : DartId) → IsOuterDart v f d → Member (point_in v (source_in v d)) (map (λ k. k.point) ks)
    outer_listed d o = in_map (λ k. k.point) (source_key v d) ks ((h.just (source_key v d)).1 (d, o, refl))

    target_listed : (d : DartId) → IsOuterDart v f d → Member (point_in v (target_in v d)) (map (λ k. k.point) ks)
    target_listed d o = subst (λ u. Member (point_in v u) (map (λ k. k.point) ks)) (s.linked.joins d o.0) (outer_listed (next_in v d) (next_outer f S d o))

    -- all that are on an envelope are among them
    pub extreme_listed : (w : Which) (p : Point) → Contains (skeleton_of v).vertices p → is_extreme w (skeleton_of v) p ≡ true → Member p (map (λ k. k.point) ks)
    extreme_listed w p P x =
        let g = skeleton_of v in
        let b = bordering g p s.plane P w x in
        let n = names_are_darts.there v b.0 s (member_in (darts g) b.0 (dart_there g b.0.edge b.0.forward b.1.in')) in
        let d = n.0 in
        let label = one_label g first_cell (left_of_dart g b.0) s.plane b.2 in
        let c = cycle_in f d in
        let cell : S.faced.0 (face_in f c) ≡ face_of (face_labels g) first_cell = S.faced.1.darts d n.1 ∙ ap (λ h. face_of (face_labels g) (left_of_dart g h)) n.2 ∙ sym label in
        let outer = first_named f S (face_in f c) (S.complete.face_has c (S.complete.cycle_has d n.1)) cell in
        let q : point_in v (source_in v d) ≡ p = sym (source_is d) ∙ ap source n.2 ∙ b.1.at in
        subst (λ r. Member r (map (λ k. k.point) ks)) q (outer_listed d (n.1, outer))

    -- both ends of an edge on offer are among them
    offered_ends : (w : Which) (d : DartId) → HasDart v d → is_offered w v f (face_after_in f None) d ≡ true → Member (point_in v (source_in v d)) (map (λ k. k.point) ks) × Member (point_in v (target_in v d)) (map (λ k. k.point) ks)
    offered_ends Lower d has o =
        let t = twin_in v d in
        let out : IsOuterDart v f t = (s.twinned.has d has, (and_parts (is_rightward v d) (is_named (face_after_in f None) (face_in f (cycle_in f t))) o).1) in
        (subst (λ x. Member (point_in v (source_in v x)) (map (λ k. k.point) ks)) (s.twinned.back d has) (target_listed t out), outer_listed t out)
    offered_ends Upper d has o =
        let out : IsOuterDart v f d = (has, (and_parts (is_rightward v d) (is_named (face_after_in f None) (face_in f (cycle_in f d))) o).1) in
        (outer_listed d out, target_listed d out)

  module _ (w : Which) (f : Faces) (ds : List DartId) (es : List Span) (on : AreOffered w v f ds) (e_is : map edge_of es ≡ map (edge_in v) ds) where
    pub counted : length ds ≡ length es
    counted = sym (length-map ds (edge_in v)) ∙ ap length (sym e_is) ∙ length-map es edge_of

    offered_at : (k : ℕ) → k < length es → HasDart v (get_or ds k (dart_id 0)) × (is_offered w v f (face_after_in f None) (get_or ds k (dart_id 0)) ≡ true)
    offered_at k l = let c = counted in on.are (get_or ds k (dart_id 0)) (member_at ds k (dart_id 0) (omega (arith, c, l)))

    dart_is : (k : ℕ) → k < length es → HasDart v (get_or ds k (dart_id 0)) × (is_rightward v (get_or ds k (dart_id 0)) ≡ true)
    dart_is k l =
        let d = get_or ds k (dart_id 0) in
        let r = offered_at k l in
        (r.0, (and_parts (is_rightward v d) (is_named (face_after_in f None) (face_in f (cycle_in f (outward_in w v d)))) r.1).0)

    pub along : (k : ℕ) → k < length es → edge_of (span_at es k) ≡ edge_in v (get_or ds k (dart_id 0))
    along k l =
        let c = counted in
        sym (get_or-map edge_of es k nowhere (edge_of nowhere) l) ∙ ap (λ xs. get_or xs k (edge_of nowhere)) e_is ∙ get_or-map (edge_in v) ds k (dart_id 0) (edge_of nowhere) (omega (arith, c, l))

    pub forward_at : (k : ℕ) → k < length es → IsForward v (get_or ds k (dart_id 0))
    forward_at k l = let r = dart_is k l in right_forward (get_or ds k (dart_id 0)) r.0 r.1

    -- an edge that spans a slab isn't vertical
    slanted : (i : ℕ) (e : Edge) → IsOutermostIn w (skeleton_of v) i e → left_of e.low e.high ≡ true
    slanted i e o =
        let g = skeleton_of v in
        let r = near_wall g i e s.plane o.is_edge o.spanning in
        (to_first g e r.0 s.plane r.1.is_vertex o.is_edge (sym (r.1.spanned e o.is_edge) ∙ o.spanning)).0

    pub edges_recorded : IsSound v f → (ks : List VertexKey) → AreOuterEnds v f ks → AreEdgesOf w (skeleton_of v) (map (λ k. k.point) ks) es
    edges_recorded S ks h = record {
      plane = s.plane;
      points = λ p m. (point_end f S ks h p (to_member (map (λ k. k.point) ks) p m)).0;
      are = λ k l. subst (Contains (skeleton_of v).edges) (sym (along k l)) (edge_known v (get_or ds k (dart_id 0)) (dart_is k l).0);
      slanted = λ k l. let r = dart_is k l in subst (λ e. left_of e.low e.high ≡ true) (sym (along k l ∙ right_edge (get_or ds k (dart_id 0)) r.0 r.1)) r.1;
      all = λ i e o.
          let E = o.is_edge in
          let long = slanted i e o in
          let h : Dart = record { edge = e; forward = true } in
          let n = names_are_darts.there v h s (member_in (darts (skeleton_of v)) h (dart_there (skeleton_of v) e true E)) in
          let d = n.0 in
          let has = n.1 in
          let fw : precedes (point_in v (source_in v d)) (point_in v (target_in v d)) ≡ true = ap (λ x. x.forward) n.2 in
          let q : edge_in v d ≡ e = ap (λ x. x.edge) n.2 in
          let p = sym (between_forward (point_in v (source_in v d)) (point_in v (target_in v d)) fw) ∙ q in
          let r : is_rightward v d ≡ true = subst (λ x. left_of x.low x.high ≡ true) (sym p) long in
          let m : Member d ds = on.all d has (offered_there w f S i e d o has n.2 r) in
          let k = place_in ds d (dart_id 0) m in
          let c = counted in
          let l : k.0 < length es = (let i = k.1 in omega (arith, c, i)) in
          (k.0, l, along k.0 l ∙ ap (edge_in v) k.2 ∙ q);
      ends = λ k l.
          let d = get_or ds k (dart_id 0) in
          let r = dart_is k l in
          let ps = map (λ k. k.point) ks in
          let m = offered_ends f S ks h w d r.0 (offered_at k l).1 in
          let q = along k l ∙ right_edge d r.0 r.1 in
          (from_member ps (span_at es k).lower (subst (λ p. Member p ps) (sym (ap (λ e. e.low) q)) m.0), from_member ps (span_at es k).upper (subst (λ p. Member p ps) (sym (ap (λ e. e.high) q)) m.1));
    }
