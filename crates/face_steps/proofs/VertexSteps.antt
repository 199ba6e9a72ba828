-- One vertex more, on no edge: what the views draw, and what the tables tell.
use Rattle.std.proofs.Common.{◌≡◌, ◌↔◌, ℕ, ◌+◌, Bool, true, false, cond, refl, sym, ap, ap₂, ◌∙◌, subst, ◌⊎◌, inl, inr, ◌∷◌}
use Rattle.std.specs.List.{count_by, Contains}
use Rattle.std.proofs.lemmas.List.Sums.{sum_by-cons}
use lib.Dec.{ltb}
use Rattle.exact_plane.specs.Point.{Point}
use Rattle.plane_graphs.specs.Graph.{Edge, edge_cmp}
use Rattle.plane_graphs.proofs.Ascending.{to_member, from_member, ascending_unique}
use Rattle.plane_graphs.proofs.Meaning.{edge_cmp_total}
use Rattle.slab_laws.specs.declared.names.DartId.{DartId}
use Rattle.slab_laws.specs.declared.names.FaceId.{FaceId}
use Rattle.slab_laws.specs.declared.names.VertexId.{VertexId}
use Rattle.slab_laws.specs.declared.slab_cell.SlabCell.{SlabCell}
use Rattle.slab_laws.specs.Cycles.{left_of_dart}
use Rattle.slab_laws.specs.Darts.{Dart}
use Rattle.slab_laws.specs.Faces.{cells}
use Rattle.slab_laws.specs.FacesSound.{lead_in, IsCycled}
use Rattle.slab_laws.specs.Meets.{SameFace}
use Rattle.slab_laws.specs.Rows.{least_dart_of}
use Rattle.slab_laws.specs.Skeleton.{HasWeight, same_point}
use Rattle.slab_laws.specs.Slabs.{slab_left, left_cell}
use Rattle.slab_laws.specs.Sound.{skeleton_of, edge_in, dart_in, IsGraphSound}
use Rattle.slab_laws.specs.Subdivision.{first_cell}
use Rattle.slab_laws.specs.View.{View, Faces, HasVertex, HasDart, point_in, source_in, twin_in, target_in, face_in}
use Rattle.slab_faces.proofs.ListedCells.{dart_cell, first_listed}
use Rattle.slab_faces.proofs.Member.{member_in}
use Rattle.slab_faces.proofs.Sets.{set_cons}
use Rattle.slab_faces.proofs.Shift.{same_sum}
use Rattle.slab_faces.proofs.Turns.{face_at, face_trans, face_sym, member_cases}
use Rattle.slab_faces.proofs.WallsLemmas.{cell_there}
use Rattle.arr_notes.proofs.Names.{cases_vertex}
use Rattle.sound_views.proofs.NamedDarts.{names_are_darts, by_points}
use Rattle.rotation_order.specs.VertexRings.{IsBare}
use Rattle.sound_changes.specs.NextLaws.{IsDartOf}
use Rattle.sound_changes.proofs.KnownNames.{point_known, known_point, edge_known, known_edge, points_ascend, edges_ascend}
use Rattle.face_changes.specs.Kinds.{is_outer}
use Rattle.face_changes.specs.FacesByPairs.{Item, outside, beside, round, HasItem, cell_at, name_at, first_or, AreFacesTold}
use Rattle.face_changes.specs.OneMoreVertex.{HasOneMoreVertex, widened}
use Rattle.face_changes.proofs.FaceNames.{face_cases}
use Rattle.face_changes.proofs.LinkedCycles.{dart_there, there_dart}
use Rattle.face_changes.proofs.OneMoreEdge.{one_outer_cycle}
use Rattle.face_changes.proofs.OneMoreVertex.{one_more_vertex}
use Rattle.face_steps.specs.VertexSteps.{IsVertexApart, IsBareApart, IsFaceRound, VertexSteps}
use Rattle.face_steps.proofs.Alike.{cycles_follow, cycles_followed, IsLike, faces_follow, faces_followed}
use Rattle.face_steps.proofs.Counted.{in_front, behind, point_set}

-- the cells of all that is there are listed
pub item_listed : (v : View) → IsGraphSound v → (i : Item) → HasItem v i → Contains (cells (skeleton_of v)) (cell_at v i)
item_listed v s outside h = member_in (cells (skeleton_of v)) first_cell (first_listed (skeleton_of v))
item_listed v s (beside d) h = member_in (cells (skeleton_of v)) _ (dart_cell (skeleton_of v) s.plane (dart_in v d).edge (dart_in v d).forward (there_dart (skeleton_of v) (dart_in v d) (names_are_darts.known v d s h)))
item_listed v s (round w) h = member_in (cells (skeleton_of v)) _ (cell_there (skeleton_of v) (point_in v w) s.plane (s.drawn.proper w h.0).positive)

-- each face has something in it besides vertices: what is far outside, or what is left of a dart of its outer cycle
pub no_vertex_needed : (v : View) (f : Faces) → IsGraphSound v → AreFacesTold v f → (i : Item) → HasItem v i → (SameFace (skeleton_of v) first_cell (cell_at v i)) ⊎ ((k : DartId) × HasDart v k × SameFace (skeleton_of v) (left_of_dart (skeleton_of v) (dart_in v k)) (cell_at v i))
no_vertex_needed v f s t i h = elim (face_cases (name_at f outside) (name_at f i)) [
  | inl e ↦ inl ((t.same outside i tt h).0 e)
  | inr n ↦
      let d = one_outer_cycle.bounded (skeleton_of v) (cell_at v i) s.plane (item_listed v s i h) (λ k. n ((t.same outside i tt h).1 (face_sym _ _ _ k))) in
      let k = names_are_darts.there v d.0 s (dart_there (skeleton_of v) d.0 d.1) in
      inr (k.0, k.1, subst (λ x. SameFace (skeleton_of v) (left_of_dart (skeleton_of v) x) (cell_at v i)) (sym k.2) d.2)
]

module _ (v w : View) (u : VertexId) (p : Point) (m : IsVertexApart v w u p) where
  up : (k : DartId) → HasDart v k → HasDart w k
  up k o = (m.darts k).has o

  down : (k : DartId) → HasDart w k → HasDart v k
  down k o = (m.darts k).had o

  source_point : (k : DartId) → HasDart v k → point_in w (source_in w k) ≡ point_in v (source_in v k)
  source_point k o = ap (point_in w) (m.darts k).source ∙ (m.up (source_in v k) (m.sound.linked.source k o)).1

  target_point : (k : DartId) → HasDart v k → point_in w (target_in w k) ≡ point_in v (target_in v k)
  target_point k o = ap (λ e. point_in w (source_in w e)) (m.darts k).twin ∙ source_point (twin_in v k) (m.sound.twinned.has k o)

  drawn : (k : DartId) → HasDart v k → dart_in w k ≡ dart_in v k
  drawn k o = ap₂ by_points (source_point k o) (target_point k o)

  same_edge_in : (k : DartId) → HasDart v k → edge_in w k ≡ edge_in v k
  same_edge_in k o = ap (λ (z : Dart). z.edge) (drawn k o)

  edge_up : (e : Edge) → Contains (skeleton_of v).edges e → Contains (skeleton_of w).edges e
  edge_up e c = let r = known_edge v e c in subst (Contains (skeleton_of w).edges) (same_edge_in r.0 r.1 ∙ sym r.2) (edge_known w r.0 (up r.0 r.1))

  edge_down : (e : Edge) → Contains (skeleton_of w).edges e → Contains (skeleton_of v).edges e
  edge_down e c = let r = known_edge w e c in subst (Contains (skeleton_of v).edges) (sym (same_edge_in r.0 (down r.0 r.1)) ∙ sym r.2) (edge_known v r.0 (down r.0 r.1))

  same_edges : (skeleton_of w).edges ≡ (skeleton_of v).edges
  same_edges =
      ascending_unique edge_cmp edge_cmp_total (skeleton_of w).edges (skeleton_of v).edges (edges_ascend w) (edges_ascend v)
      (λ e k. to_member _ e (edge_down e (from_member _ e k))) (λ e k. to_member _ e (edge_up e (from_member _ e k)))

  -- ---- points
  fresh : ¬ Contains (skeleton_of v).vertices p
  fresh c =
      let r = known_point v m.sound.named p c in
      let q = m.up r.0 r.1 in
      m.new (subst (HasVertex v) (m.sound_more.drawn.points r.0 u q.0 m.has (q.1 ∙ sym r.2 ∙ sym m.point)) r.1)

  points : (t : Point) → Contains (skeleton_of w).vertices t ↔ (Contains (skeleton_of v).vertices t ⊎ (t ≡ p))
  points t = (
    λ c.
        let r = known_point w m.sound_more.named t c in
        elim (cases_vertex r.0 u) [
          | inl e ↦ inr (r.2 ∙ ap (point_in w) e ∙ m.point)
          | inr n ↦ let z = m.down r.0 r.1 n in inl (subst (Contains (skeleton_of v).vertices) (sym (r.2 ∙ (m.up r.0 z).1)) (point_known v m.sound.named r.0 z))
        ],
    λ c. elim c [
      | inl k ↦ let r = known_point v m.sound.named t k in let q = m.up r.0 r.1 in subst (Contains (skeleton_of w).vertices) (q.1 ∙ sym r.2) (point_known w m.sound_more.named r.0 q.0)
      | inr e ↦ subst (Contains (skeleton_of w).vertices) (m.point ∙ sym e) (point_known w m.sound_more.named u m.has)
    ],
  )

  counts : (t : Point → Bool) → count_by t (skeleton_of w).vertices ≡ cond (t p) 1 0 + count_by t (skeleton_of v).vertices
  counts t =
      same_sum same_point (λ z. cond (t z) 1 0) (skeleton_of w).vertices (p ∷ (skeleton_of v).vertices)
      (point_set (skeleton_of w).vertices (points_ascend w)) (set_cons same_point p (skeleton_of v).vertices (point_set (skeleton_of v).vertices (points_ascend v)) fresh)
      (λ z c. elim ((points z).0 c) [ inl k ↦ behind p _ z k | inr e ↦ subst (Contains (p ∷ (skeleton_of v).vertices)) (sym e) (in_front p _) ])
      (λ z c. (points z).1 (elim (member_cases p (skeleton_of v).vertices z c) [ inl e ↦ inr (sym e) | inr k ↦ inl k ]))
      ∙ sum_by-cons (λ z. cond (t z) 1 0) p (skeleton_of v).vertices

  more : HasOneMoreVertex (skeleton_of v) (skeleton_of w) p
  more = record { plane = m.sound.plane; plane_more = m.sound_more.plane; edges = same_edges; vertices = points; counts = counts }

  is_dart : (k : DartId) → HasDart v k → IsDartOf (skeleton_of v) (dart_in v k)
  is_dart k o = there_dart (skeleton_of v) (dart_in v k) (names_are_darts.known v k m.sound o)

  lead_same : (k : DartId) → HasDart v k → lead_in w k ≡ lead_in v k
  lead_same k o = ap (least_dart_of (skeleton_of w)) (drawn k o) ∙ one_more_vertex.leads (skeleton_of v) (skeleton_of w) p (dart_in v k) more

  outer_same : (k : DartId) → HasDart v k → is_outer (skeleton_of w) (dart_in w k) ≡ is_outer (skeleton_of v) (dart_in v k)
  outer_same k o = ap (is_outer (skeleton_of w)) (drawn k o) ∙ one_more_vertex.kinds (skeleton_of v) (skeleton_of w) p (dart_in v k) more (is_dart k o)

  module _ (f s : Faces) (face : FaceId) (t : IsBareApart v f s u face) where
    cycled : IsCycled v f ↔ IsCycled w s
    cycled = (
      cycles_follow v w f s m.sound m.sound_more (λ k o. k) (λ k o. down k o) (λ k o. (k, up k o, refl)) (λ k o. t.darts k (down k o)) (λ k o. t.kinds k (down k o)) (λ k o. outer_same k (down k o)) (λ k j o o'. leads k j (down k o) (down j o')),
      cycles_followed v w f s m.sound m.sound_more (λ k o. k) (λ k o. down k o) (λ k o. (k, up k o, refl)) (λ k o. t.darts k (down k o)) (λ k o. t.kinds k (down k o)) (λ k o. outer_same k (down k o)) (λ k j o o'. leads k j (down k o) (down j o')),
    )
      where
        leads : (k j : DartId) → HasDart v k → HasDart v j → (lead_in w k ≡ lead_in w j) ↔ (lead_in v k ≡ lead_in v j)
        leads k j o o' = (λ e. sym (lead_same k o) ∙ e ∙ lead_same j o', λ e. lead_same k o ∙ e ∙ sym (lead_same j o'))

    -- ---- faces
    abbrev Like : Item → Item → Type 0
    Like i j = IsLike v w f s (widened (skeleton_of v) p) (Contains (cells (skeleton_of w))) i j

    law : (c d : SlabCell) → Contains (cells (skeleton_of w)) c → Contains (cells (skeleton_of w)) d → SameFace (skeleton_of w) c d ↔ SameFace (skeleton_of v) (widened (skeleton_of v) p c) (widened (skeleton_of v) p d)
    law c d C D = one_more_vertex.faces (skeleton_of v) (skeleton_of w) p c d more C D

    at_vertex : (z : VertexId) → HasVertex v z → widened (skeleton_of v) p (left_cell (skeleton_of w) (point_in w z)) ≡ left_cell (skeleton_of v) (point_in v z)
    at_vertex z o = ap (λ t. widened (skeleton_of v) p (left_cell (skeleton_of w) t)) (m.up z o).1 ∙ one_more_vertex.left (skeleton_of v) (skeleton_of w) p (point_in v z) more (m.sound.drawn.proper z o).positive

    at_new : widened (skeleton_of v) p (left_cell (skeleton_of w) (point_in w u)) ≡ left_cell (skeleton_of v) p
    at_new = ap (λ t. widened (skeleton_of v) p (left_cell (skeleton_of w) t)) m.point ∙ one_more_vertex.left (skeleton_of v) (skeleton_of w) p p more (subst HasWeight m.point (m.sound_more.drawn.proper u m.has).positive)

    at_dart : (k : DartId) → HasDart v k → widened (skeleton_of v) p (left_of_dart (skeleton_of w) (dart_in w k)) ≡ left_of_dart (skeleton_of v) (dart_in v k)
    at_dart k o = ap (λ x. widened (skeleton_of v) p (left_of_dart (skeleton_of w) x)) (drawn k o) ∙ one_more_vertex.dart (skeleton_of v) (skeleton_of w) p (dart_in v k) more (is_dart k o)

    bare_down : (z : VertexId) → IsBare w z → IsBare v z
    bare_down z none k o = none k (up k o.0, (m.darts k).source ∙ o.1)

    bare_up : (z : VertexId) → IsBare v z → IsBare w z
    bare_up z none k o = none k (down k o.0, sym (m.darts k).source ∙ o.1)

    bare_new : IsBare w u
    bare_new k o = m.new (subst (HasVertex v) (sym (m.darts k).source ∙ o.1) (m.sound.linked.source k (down k o.0)))

    both_zero : (b : Bool) → cond {A = ℕ} b 0 0 ≡ 0
    both_zero true = refl
    both_zero false = refl

    first_widened : widened (skeleton_of v) p first_cell ≡ first_cell
    first_widened = λ i. record { slab = both_zero (ltb (slab_left (skeleton_of v) p) 0) i; place = 0 }

    like_outside : Like outside outside
    like_outside = record { has = tt; has_more = tt; real = item_listed w m.sound_more outside tt; same = face_at _ _ _ (sym first_widened); name = ap first_or (sym t.faces) }

    like_dart : (k : DartId) → HasDart v k → Like (beside k) (beside k)
    like_dart k o = record { has = o; has_more = up k o; real = item_listed w m.sound_more (beside k) (up k o); same = face_at _ _ _ (sym (at_dart k o)); name = sym (ap (face_in s) (t.darts k o) ∙ t.beside k o) }

    like_vertex : (z : VertexId) → HasVertex v z → IsBare v z → Like (round z) (round z)
    like_vertex z o none =
        let h : HasItem w (round z) = ((m.up z o).0, bare_up z none) in
        record { has = (o, none); has_more = h; real = item_listed w m.sound_more (round z) h; same = face_at _ _ _ (sym (at_vertex z o)); name = sym (t.round z o) }

    to_but : ((i : Item) × Like i (round u)) → (j : Item) → HasItem w j → (i : Item) × Like i j
    to_but new outside h = (outside, like_outside)
    to_but new (beside k) h = (beside k, like_dart k (down k h))
    to_but new (round z) h = elim (cases_vertex z u) [
      | inl e ↦ (new.0, subst (λ y. Like new.0 (round y)) (sym e) new.1)
      | inr n ↦ (round z, like_vertex z (m.down z h.0 n) (bare_down z h.1))
    ]

    from : (i : Item) → HasItem v i → (j : Item) × Like i j
    from outside h = (outside, like_outside)
    from (beside k) h = (beside k, like_dart k h)
    from (round z) h = (round z, like_vertex z h.0 h.1)

    -- the face named for a point
    stays : (a : FaceId) (q : Point) → HasWeight q → IsFaceRound v f a q → IsFaceRound w s a q
    stays a q positive r =
        let j = from r.0 r.1 in
        let here : SlabCell = left_cell (skeleton_of w) q in
        let real : Contains (cells (skeleton_of w)) (left_cell (skeleton_of w) q) = member_in (cells (skeleton_of w)) _ (cell_there (skeleton_of w) q m.sound_more.plane positive) in
        let back : widened (skeleton_of v) p (left_cell (skeleton_of w) q) ≡ left_cell (skeleton_of v) q = one_more_vertex.left (skeleton_of v) (skeleton_of w) p q more positive in
        (j.0, j.1.has_more, sym j.1.name ∙ r.2, (law (cell_at w j.0) here j.1.real real).1 (face_trans _ _ _ _ (face_sym _ _ _ j.1.same) (face_trans _ _ _ _ r.3 (face_at _ _ _ (sym back)))))

    comes : IsFaceRound v f face p → AreFacesTold v f → AreFacesTold w s
    comes r told =
        let h : HasItem w (round u) = (m.has, bare_new) in
        let new : (i : Item) × Like i (round u) = (r.0, record { has = r.1; has_more = h; real = item_listed w m.sound_more (round u) h; same = face_trans _ _ _ _ r.3 (face_at _ _ _ (sym at_new)); name = r.2 ∙ sym t.new }) in
        faces_follow v w f s (widened (skeleton_of v) p) (Contains (cells (skeleton_of w))) law t.faces (to_but new) from told

    goes : AreFacesTold w s → AreFacesTold v f
    goes told = faces_followed v w f s (widened (skeleton_of v) p) (Contains (cells (skeleton_of w))) law t.faces (to_but new) from told
      where
        h : HasItem w (round u)
        h = (m.has, bare_new)

        real : Contains (cells (skeleton_of w)) (cell_at w (round u))
        real = item_listed w m.sound_more (round u) h

        new : (i : Item) × Like i (round u)
        new = elim (no_vertex_needed w s m.sound_more told (round u) h) [
          | inl k ↦ (outside, record { has = tt; has_more = h; real = real; same = face_trans _ _ _ _ (face_at _ _ _ (sym first_widened)) ((law _ _ (item_listed w m.sound_more outside tt) real).0 k); name = ap first_or (sym t.faces) ∙ (told.same outside (round u) tt h).1 k })
          | inr k ↦
              let o = down k.0 k.1 in
              let q = like_dart k.0 o in
              (beside k.0, record { has = o; has_more = h; real = real; same = face_trans _ _ _ _ q.same ((law _ _ q.real real).0 k.2); name = q.name ∙ (told.same (beside k.0) (round u) k.1 h).1 k.2 })
        ]

pub vertex_steps : VertexSteps
vertex_steps = record {
  cycled = λ v w f s u p face m t. cycled v w u p m f s face t;
  comes = λ v w f s u p face m t. comes v w u p m f s face t;
  goes = λ v w f s u p face m t. goes v w u p m f s face t;
  stays = λ v w f s u p face m t a q positive r. stays v w u p m f s face t a q positive r;
}
