-- An edge in two: what the views draw, and what the tables tell.
use Rattle.std.proofs.Common.{◌≡◌, ◌≢◌, ◌↔◌, ℕ, ◌+◌, Bool, true, false, cond, arith, refl, sym, ap, ◌∙◌, subst, ◌⊎◌, inl, inr, List, ◌∷◌}
use Rattle.std.specs.Prelude.{not, ◌==◌}
use Rattle.std.specs.List.{count_by, sum_by, Contains, filter}
use Rattle.std.proofs.lemmas.Bool.{cases_Bool, false≢true, true≢false, false_from_ne_true}
use Rattle.std.proofs.lemmas.List.Sums.{sum_by-cons}
use lib.Dec.{ltb}
use Rattle.integers.proofs.Tests.{other_number, same_number}
use Rattle.exact_plane.specs.Point.{Point}
use Rattle.plane_graphs.specs.Ascending.{ascending}
use Rattle.plane_graphs.specs.Graph.{Edge, edge_cmp}
use Rattle.plane_graphs.specs.Line.{IsProper}
use Rattle.plane_graphs.proofs.Ascending.{to_member, from_member, IsAscending-ascending}
use Rattle.plane_graphs.proofs.Lists.{in_ascending, of_ascending}
use Rattle.plane_graphs.proofs.Meaning.{edge_cmp_total, edge_cmp_exact}
use Rattle.slab_laws.specs.declared.names.DartId.{DartId}
use Rattle.slab_laws.specs.declared.names.FaceId.{FaceId}
use Rattle.slab_laws.specs.declared.names.VertexId.{VertexId}
use Rattle.slab_laws.specs.declared.slab_cell.SlabCell.{SlabCell}
use Rattle.slab_laws.specs.Cycles.{left_of_dart}
use Rattle.slab_laws.specs.Darts.{Dart, darts, ahead, back}
use Rattle.slab_laws.specs.Faces.{cells}
use Rattle.slab_laws.specs.FacesSound.{lead_in, IsCycled}
use Rattle.slab_laws.specs.Meets.{SameFace}
use Rattle.slab_laws.specs.Rotation.{next}
use Rattle.slab_laws.specs.Rows.{least_dart_of}
use Rattle.slab_laws.specs.Skeleton.{HasWeight, same_point, same_edge, inside}
use Rattle.slab_laws.specs.Slabs.{slab_left, left_cell}
use Rattle.slab_laws.specs.Sound.{skeleton_of, dart_in}
use Rattle.slab_laws.specs.Subdivision.{first_cell}
use Rattle.slab_laws.specs.View.{View, Faces, HasVertex, HasDart, point_in, source_in, next_in, cycle_in, face_in}
use Rattle.slab_faces.proofs.Member.{member_in, in_member, filter_in, filter_out}
use Rattle.slab_faces.proofs.Slabs.{same_edge_is, same_edge_refl}
use Rattle.slab_faces.proofs.Sets.{set_cons}
use Rattle.slab_faces.proofs.Shift.{same_sum}
use Rattle.slab_faces.proofs.WallsLemmas.{cell_there}
use Rattle.slab_faces.proofs.Turns.{face_at, face_trans, face_sym, member_cases}
use Rattle.arr_notes.proofs.Names.{cases_dart}
use Rattle.arr_notes.proofs.Reading.{dart_number}
use Rattle.sound_views.proofs.NamedDarts.{names_are_darts}
use Rattle.rotation_order.specs.EdgeParts.{lower_part, upper_part}
use Rattle.rotation_order.specs.VertexRings.{IsBare}
use Rattle.sound_changes.specs.NextLaws.{IsDartOf}
use Rattle.sound_changes.specs.SplitHalves.{IsHalved}
use Rattle.sound_changes.proofs.KnownNames.{known_point, edge_known, points_ascend, edges_ascend}
use Rattle.sound_changes.proofs.SplitDrawn.{points_parted, edges_parted}
use Rattle.sound_changes.proofs.SplitDirections as ways
use Rattle.sound_changes.proofs.SplitHalves.{three, where_is, not_w}
use Rattle.face_changes.specs.EdgeSplit.{HasEdgeSplit, whole_dart, FollowsSplit}
use Rattle.face_changes.specs.Kinds.{is_outer}
use Rattle.face_changes.specs.FacesByPairs.{Item, outside, beside, round, HasItem, cell_at, first_or, AreFacesTold}
use Rattle.face_changes.specs.OneMoreVertex.{widened}
use Rattle.face_changes.proofs.EdgeSplit.{edge_split_in_two}
use Rattle.face_changes.proofs.LinkedCycles.{dart_there, there_dart}
use Rattle.face_steps.specs.SplitSteps.{whole_name, IsSplitApart, AreHalvesTabled, SplitSteps}
use Rattle.face_steps.specs.VertexSteps.{IsFaceRound}
use Rattle.face_steps.proofs.Alike.{cycles_follow, cycles_followed, IsLike, faces_follow, faces_followed}
use Rattle.face_steps.proofs.Counted.{in_front, behind, point_set, edge_set}
use Rattle.face_steps.proofs.VertexSteps.{item_listed}

-- ---- names
pub of_first : (d t n m : DartId) → whole_name d t n m n ≡ d
of_first d t n m = ap (λ b. cond b d (cond (n.0 == m.0) t n)) (same_number n.0)

pub of_second : (d t n m : DartId) → n ≢ m → whole_name d t n m m ≡ t
of_second d t n m e =
    ap (λ b. cond b d (cond (m.0 == m.0) t m)) (other_number m.0 n.0 (dart_number m n (λ q. e (sym q))))
    ∙ ap (λ b. cond b t m) (same_number m.0)

pub of_other : (d t n m k : DartId) → k ≢ n → k ≢ m → whole_name d t n m k ≡ k
of_other d t n m k a b =
    ap (λ c. cond c d (cond (k.0 == m.0) t k)) (other_number k.0 n.0 (dart_number k n a))
    ∙ ap (λ c. cond c t k) (other_number k.0 m.0 (dart_number k m b))

-- ---- darts of the parts as darts of the whole
module _ (e : Edge) (p : Point) where
  pub whole_low : (fw : Bool) → whole_dart e p (record { edge = lower_part e p; forward = fw }) ≡ (record { edge = e; forward = fw })
  unfolding whole_dart
  whole_low fw = rw (same_edge_refl (lower_part e p)) refl

  pub whole_high : (fw : Bool) → whole_dart e p (record { edge = upper_part e p; forward = fw }) ≡ (record { edge = e; forward = fw })
  unfolding whole_dart
  whole_high fw = elim (cases_Bool (same_edge (upper_part e p) (lower_part e p))) [ inl k ↦ rw k refl | inr k ↦ rw (k, same_edge_refl (upper_part e p)) refl ]

  pub whole_rest : (z : Dart) → z.edge ≢ lower_part e p → z.edge ≢ upper_part e p → whole_dart e p z ≡ z
  unfolding whole_dart
  whole_rest z a b = rw (false_from_ne_true _ (λ q. a (same_edge_is z.edge (lower_part e p) q)), false_from_ne_true _ (λ q. b (same_edge_is z.edge (upper_part e p) q))) refl

both_zero : (b : Bool) → cond {A = ℕ} b 0 0 ≡ 0
both_zero true = refl
both_zero false = refl

module _ (v w : View) (d t n m : DartId) (u : VertexId) (p : Point) (c : IsSplitApart v w d t n m u p) where
  i : IsHalved v w d t n m u
  i = record {
    n_new = c.halves.n_new;
    m_new = c.halves.m_new;
    n_m = c.halves.n_m;
    has_n = c.halves.has_n;
    has_m = c.halves.has_m;
    has_d = c.halves.has_d;
    has_t = c.halves.has_t;
    d_t = c.halves.d_t;
    twin_d = c.halves.twin_d;
    twin_t = c.halves.twin_t;
    has_old = c.halves.has_old;
    had = c.halves.had;
    source_n = c.halves.source_n;
    source_m = c.halves.source_m;
    source_t = c.halves.source_t;
    source_old = c.halves.source_old;
    twin_n = c.halves.twin_n;
    twin_m = c.halves.twin_m;
    twin_old = c.halves.twin_old;
    line_n = c.halves.line_n;
    line_m = c.halves.line_m;
    line_old = c.halves.line_old;
    w_new = c.halves.w_new;
    w_has = c.halves.w_has;
    vertex_has = c.halves.vertex_has;
    vertex_had = c.halves.vertex_had;
    vertex_point = c.halves.vertex_point;
  }

  abbrev e : Edge
  e = record { low = point_in v (source_in v d); high = point_in v (source_in v t) }

  sourced : (k : DartId) → HasDart v k → HasVertex v (source_in v k)
  sourced = c.sound.linked.source

  whole_ahead : dart_in v d ≡ ahead e
  whole_ahead = ways.whole_ahead v w d t n m u i c.sound.twinned sourced p c.point c.before c.behind

  whole_back : dart_in v t ≡ back e
  whole_back = ways.whole_back v w d t n m u i c.sound.twinned sourced p c.point c.before c.behind

  near_ahead : dart_in w d ≡ ahead (lower_part e p)
  near_ahead = ways.near_ahead v w d t n m u i c.sound.twinned sourced p c.point c.before c.behind

  near_back : dart_in w t ≡ back (lower_part e p)
  near_back = ways.near_back v w d t n m u i c.sound.twinned sourced p c.point c.before c.behind

  far_ahead : dart_in w n ≡ ahead (upper_part e p)
  far_ahead = ways.far_ahead v w d t n m u i c.sound.twinned sourced p c.point c.before c.behind

  far_back : dart_in w m ≡ back (upper_part e p)
  far_back = ways.far_back v w d t n m u i c.sound.twinned sourced p c.point c.before c.behind

  -- ---- points
  points : (q : Point) → Contains (skeleton_of w).vertices q ↔ (Contains (skeleton_of v).vertices q ⊎ (q ≡ p))
  points = points_parted v w d t n m u i c.sound.named c.sound_more.named p c.point

  fresh : ¬ Contains (skeleton_of v).vertices p
  fresh h =
      let r = known_point v c.sound.named p h in
      c.halves.w_new (subst (HasVertex v) (c.sound_more.drawn.points r.0 u (c.halves.vertex_has r.0 r.1) c.halves.w_has (c.halves.vertex_point r.0 r.1 ∙ sym r.2 ∙ sym c.point)) r.1)

  counts : (q : Point → Bool) → count_by q (skeleton_of w).vertices ≡ cond (q p) 1 0 + count_by q (skeleton_of v).vertices
  counts q =
      same_sum same_point (λ z. cond (q z) 1 0) (skeleton_of w).vertices (p ∷ (skeleton_of v).vertices)
      (point_set (skeleton_of w).vertices (points_ascend w)) (set_cons same_point p (skeleton_of v).vertices (point_set (skeleton_of v).vertices (points_ascend v)) fresh)
      (λ z k. elim ((points z).0 k) [ inl o ↦ behind p _ z o | inr r ↦ subst (Contains (p ∷ (skeleton_of v).vertices)) (sym r) (in_front p _) ])
      (λ z k. (points z).1 (elim (member_cases p (skeleton_of v).vertices z k) [ inl r ↦ inr (sym r) | inr o ↦ inl o ]))
      ∙ sum_by-cons (λ z. cond (q z) 1 0) p (skeleton_of v).vertices

  -- ---- edges: all but the whole
  abbrev kept : List Edge
  kept = filter (λ z. not (same_edge z e)) (skeleton_of v).edges

  abbrev rest : List Edge
  rest = ascending edge_cmp kept

  in_rest : (z : Edge) → Contains (skeleton_of v).edges z → z ≢ e → Contains rest z
  in_rest z Z ne =
      let k = filter_in (λ y. not (same_edge y e)) (skeleton_of v).edges z (in_member _ z Z) (ap not (false_from_ne_true _ (λ b. ne (same_edge_is z e b)))) in
      from_member rest z (in_ascending edge_cmp edge_cmp_total edge_cmp_exact z kept (to_member kept z (member_in kept z k)))

  of_rest : (z : Edge) → Contains rest z → Contains (skeleton_of v).edges z × (z ≢ e)
  of_rest z Z =
      let k = filter_out (λ y. not (same_edge y e)) (skeleton_of v).edges z (in_member kept z (from_member kept z (of_ascending edge_cmp edge_cmp_total edge_cmp_exact z kept (to_member rest z Z)))) in
      (member_in _ z k.0, λ q. true≢false (sym k.1 ∙ ap not (ap (λ y. same_edge y e) q ∙ same_edge_refl e)))

  whole_there : Contains (skeleton_of v).edges e
  whole_there = subst (Contains (skeleton_of v).edges) (ap (λ (z : Dart). z.edge) whole_ahead) (edge_known v d c.halves.has_d)

  edge_cases : (z : Edge) → Contains (skeleton_of v).edges z → Contains rest z ⊎ (z ≡ e)
  edge_cases z Z = elim (cases_Bool (same_edge z e)) [ inl b ↦ inr (same_edge_is z e b) | inr b ↦ inl (in_rest z Z (λ q. false≢true (sym b ∙ ap (λ y. same_edge y e) q ∙ same_edge_refl e))) ]

  edges : (z : Edge) → Contains (skeleton_of v).edges z ↔ (Contains rest z ⊎ (z ≡ e))
  edges z = (edge_cases z, λ k. elim k [ inl r ↦ (of_rest z r).0 | inr q ↦ subst (Contains (skeleton_of v).edges) (sym q) whole_there ])

  parted : (z : Edge) → Contains (skeleton_of w).edges z ↔ ((Contains (skeleton_of v).edges z × (z ≢ e)) ⊎ ((z ≡ lower_part e p) ⊎ (z ≡ upper_part e p)))
  parted = edges_parted v w d t n m u i c.sound.twinned sourced p c.point c.before c.behind c.sound.turned.differ

  edges_more : (z : Edge) → Contains (skeleton_of w).edges z ↔ (Contains rest z ⊎ (z ≡ lower_part e p) ⊎ (z ≡ upper_part e p))
  edges_more z = (
    λ Z. elim ((parted z).0 Z) [ inl k ↦ inl (in_rest z k.0 k.1) | inr k ↦ inr k ],
    λ k. (parted z).1 (elim k [ inl r ↦ inl (of_rest z r) | inr q ↦ inr q ]),
  )

  no_low : ¬ Contains (skeleton_of v).edges (lower_part e p)
  no_low k = fresh (c.sound.plane.upper_in (lower_part e p) k)

  no_high : ¬ Contains (skeleton_of v).edges (upper_part e p)
  no_high k = fresh (c.sound.plane.lower_in (upper_part e p) k)

  two_parts : lower_part e p ≢ upper_part e p
  two_parts q = fresh (subst (Contains (skeleton_of v).vertices) (ap (λ (z : Edge). z.low) q) (c.sound.plane.lower_in e whole_there))

  sums : (F : Edge → ℕ) → sum_by F (skeleton_of v).edges ≡ F e + sum_by F rest
  sums F =
      same_sum same_edge F (skeleton_of v).edges (e ∷ rest) (edge_set (skeleton_of v).edges (edges_ascend v))
      (set_cons same_edge e rest (edge_set rest (IsAscending-ascending edge_cmp edge_cmp_total kept)) (λ k. (of_rest e k).1 refl))
      (λ z Z. elim (edge_cases z Z) [ inl k ↦ behind e rest z k | inr q ↦ subst (Contains (e ∷ rest)) (sym q) (in_front e rest) ])
      (λ z Z. (edges z).1 (elim (member_cases e rest z Z) [ inl q ↦ inr (sym q) | inr k ↦ inl k ]))
      ∙ sum_by-cons F e rest

  rest_set : (z : Edge) → ¬ Contains (skeleton_of v).edges z → ¬ Contains rest z
  rest_set z new k = new (of_rest z k).0

  sums_more : (F : Edge → ℕ) → sum_by F (skeleton_of w).edges ≡ F (lower_part e p) + F (upper_part e p) + sum_by F rest
  sums_more F =
      let far = set_cons same_edge (upper_part e p) rest (edge_set rest (IsAscending-ascending edge_cmp edge_cmp_total kept)) (rest_set (upper_part e p) no_high) in
      let near = set_cons same_edge (lower_part e p) (upper_part e p ∷ rest) far (λ k. elim (member_cases (upper_part e p) rest (lower_part e p) k) [ inl q ↦ two_parts (sym q) | inr r ↦ rest_set (lower_part e p) no_low r ]) in
      let a : sum_by F (skeleton_of w).edges ≡ sum_by F (lower_part e p ∷ upper_part e p ∷ rest) = same_sum same_edge F (skeleton_of w).edges (lower_part e p ∷ upper_part e p ∷ rest) (edge_set (skeleton_of w).edges (edges_ascend w)) near
      (λ z Z. elim ((edges_more z).0 Z) [
        | inl k ↦ behind (lower_part e p) (upper_part e p ∷ rest) z (behind (upper_part e p) rest z k)
        | inr q ↦ elim q [
          | inl r ↦ subst (Contains (lower_part e p ∷ upper_part e p ∷ rest)) (sym r) (in_front (lower_part e p) (upper_part e p ∷ rest))
          | inr r ↦ subst (Contains (lower_part e p ∷ upper_part e p ∷ rest)) (sym r) (behind (lower_part e p) (upper_part e p ∷ rest) (upper_part e p) (in_front (upper_part e p) rest))
        ]
      ])
      (λ z Z. (edges_more z).1 (elim (member_cases (lower_part e p) (upper_part e p ∷ rest) z Z) [
        | inl q ↦ inr (inl (sym q))
        | inr k ↦ elim (member_cases (upper_part e p) rest z k) [ inl q ↦ inr (inr (sym q)) | inr r ↦ inl r ]
      ])) in
      let b = sum_by-cons F (lower_part e p) (upper_part e p ∷ rest) in
      let b' = sum_by-cons F (upper_part e p) rest in
      omega arith

  split : HasEdgeSplit (skeleton_of v) (skeleton_of w) e p rest
  split = record {
    plane = c.sound.plane;
    plane_more = c.sound_more.plane;
    inside_it = subst (λ (z : Dart). inside z.edge p ≡ true) whole_ahead c.inside_it;
    proper_low = c.sound.drawn.proper (source_in v d) (sourced d c.halves.has_d);
    proper_high = c.sound.drawn.proper (source_in v t) (sourced t c.halves.has_t);
    proper = subst IsProper c.point (c.sound_more.drawn.proper u c.halves.w_has);
    vertices = points;
    counts = counts;
    edges = edges;
    edges_more = edges_more;
    sums = sums;
    sums_more = sums_more;
  }

  -- ---- darts of w as darts of v
  old_name : (k : DartId) → HasDart v k → whole_name d t n m k ≡ k
  old_name k o = of_other d t n m k (λ q. c.halves.n_new (subst (HasDart v) q o)) (λ q. c.halves.m_new (subst (HasDart v) q o))

  rep_there : (k : DartId) → HasDart w k → HasDart v (whole_name d t n m k)
  rep_there =
      three v w d t n m u i (λ k. HasDart v (whole_name d t n m k))
      (subst (HasDart v) (sym (of_first d t n m)) c.halves.has_d)
      (subst (HasDart v) (sym (of_second d t n m c.halves.n_m)) c.halves.has_t)
      (λ k o. subst (HasDart v) (sym (old_name k o)) o)

  drawn : (k : DartId) → HasDart w k → whole_dart e p (dart_in w k) ≡ dart_in v (whole_name d t n m k)
  drawn =
      three v w d t n m u i (λ k. whole_dart e p (dart_in w k) ≡ dart_in v (whole_name d t n m k))
      (ap (whole_dart e p) far_ahead ∙ whole_high e p true ∙ sym whole_ahead ∙ ap (dart_in v) (sym (of_first d t n m)))
      (ap (whole_dart e p) far_back ∙ whole_high e p false ∙ sym whole_back ∙ ap (dart_in v) (sym (of_second d t n m c.halves.n_m)))
      (λ k o. elim (cases_dart k t) [
        | inl q ↦ ap (λ z. whole_dart e p (dart_in w z)) q ∙ ap (whole_dart e p) near_back ∙ whole_low e p false ∙ sym whole_back ∙ ap (dart_in v) (sym q ∙ sym (old_name k o))
        | inr nt ↦ elim (cases_dart k d) [
          | inl q ↦ ap (λ z. whole_dart e p (dart_in w z)) q ∙ ap (whole_dart e p) near_ahead ∙ whole_low e p true ∙ sym whole_ahead ∙ ap (dart_in v) (sym q ∙ sym (old_name k o))
          | inr nd ↦
              let same = ways.same_way v w d t n m u i c.sound.twinned sourced p c.point c.before c.behind k o nt nd in
              let K = edge_known v k o in
              ap (whole_dart e p) same ∙ whole_rest e p (dart_in v k) (λ q. no_low (subst (Contains (skeleton_of v).edges) q K)) (λ q. no_high (subst (Contains (skeleton_of v).edges) q K)) ∙ ap (dart_in v) (sym (old_name k o))
        ]
      ])

  is_dart_w : (k : DartId) → HasDart w k → IsDartOf (skeleton_of w) (dart_in w k)
  is_dart_w k o = there_dart (skeleton_of w) (dart_in w k) (names_are_darts.known w k c.sound_more o)

  follows : FollowsSplit (skeleton_of v) (skeleton_of w) e p
  follows = record {
    onward = ap (next (darts (skeleton_of w))) (sym near_ahead) ∙ sym (names_are_darts.next w d c.sound_more (c.halves.has_old d c.halves.has_d)) ∙ ap (dart_in w) c.onward ∙ far_ahead;
    backward = ap (next (darts (skeleton_of w))) (sym far_back) ∙ sym (names_are_darts.next w m c.sound_more c.halves.has_m) ∙ ap (dart_in w) c.backward ∙ near_back;
    others = λ z Z a b.
        let r = names_are_darts.there w z c.sound_more (dart_there (skeleton_of w) z Z) in
        let k = r.0 in
        let A : k ≢ d = λ q. a (sym r.2 ∙ ap (dart_in w) q ∙ near_ahead) in
        let B : k ≢ m = λ q. b (sym r.2 ∙ ap (dart_in w) q ∙ far_back) in
        let N = c.sound_more.linked.has k r.1 in
        ap (λ x. whole_dart e p (next (darts (skeleton_of w)) x)) (sym r.2)
        ∙ ap (whole_dart e p) (sym (names_are_darts.next w k c.sound_more r.1))
        ∙ drawn (next_in w k) N
        ∙ ap (dart_in v) (c.follows k r.1 A B)
        ∙ names_are_darts.next v (whole_name d t n m k) c.sound (rep_there k r.1)
        ∙ ap (next (darts (skeleton_of v))) (sym (drawn k r.1) ∙ ap (whole_dart e p) r.2);
  }

  leads : (k j : DartId) → HasDart w k → HasDart w j → (lead_in w k ≡ lead_in w j) ↔ (lead_in v (whole_name d t n m k) ≡ lead_in v (whole_name d t n m j))
  leads k j o o' =
      let l = edge_split_in_two.leads (skeleton_of v) (skeleton_of w) e p rest (dart_in w k) (dart_in w j) split follows (is_dart_w k o) (is_dart_w j o') in
      let a = ap (least_dart_of (skeleton_of v)) (drawn k o) in
      let b = ap (least_dart_of (skeleton_of v)) (drawn j o') in
      (λ q. sym a ∙ l.0 q ∙ b, λ q. l.1 (a ∙ q ∙ sym b))

  outer : (k : DartId) → HasDart w k → is_outer (skeleton_of w) (dart_in w k) ≡ is_outer (skeleton_of v) (dart_in v (whole_name d t n m k))
  outer k o = edge_split_in_two.kinds (skeleton_of v) (skeleton_of w) e p rest (dart_in w k) split follows (is_dart_w k o) ∙ ap (is_outer (skeleton_of v)) (drawn k o)

  module _ (f s : Faces) (b : AreHalvesTabled v f s d t n m) where
    name : (k : DartId) → HasDart w k → cycle_in s k ≡ cycle_in f (whole_name d t n m k)
    name =
        three v w d t n m u i (λ k. cycle_in s k ≡ cycle_in f (whole_name d t n m k))
        (b.first ∙ ap (cycle_in f) (sym (of_first d t n m)))
        (b.second ∙ ap (cycle_in f) (sym (of_second d t n m c.halves.n_m)))
        (λ k o. b.darts k o ∙ ap (cycle_in f) (sym (old_name k o)))

    cycled : IsCycled v f ↔ IsCycled w s
    cycled = (
      cycles_follow v w f s c.sound c.sound_more (λ k o. whole_name d t n m k) rep_there (λ k o. (k, c.halves.has_old k o, old_name k o)) name (λ k o. b.kinds (whole_name d t n m k) (rep_there k o)) outer leads,
      cycles_followed v w f s c.sound c.sound_more (λ k o. whole_name d t n m k) rep_there (λ k o. (k, c.halves.has_old k o, old_name k o)) name (λ k o. b.kinds (whole_name d t n m k) (rep_there k o)) outer leads,
    )

    -- ---- faces
    abbrev Like : Item → Item → Type 0
    Like x y = IsLike v w f s (widened (skeleton_of v) p) (Contains (cells (skeleton_of w))) x y

    law : (x y : SlabCell) → Contains (cells (skeleton_of w)) x → Contains (cells (skeleton_of w)) y → SameFace (skeleton_of w) x y ↔ SameFace (skeleton_of v) (widened (skeleton_of v) p x) (widened (skeleton_of v) p y)
    law x y X Y = edge_split_in_two.faces (skeleton_of v) (skeleton_of w) e p rest x y split X Y

    first_widened : widened (skeleton_of v) p first_cell ≡ first_cell
    first_widened = λ j. record { slab = both_zero (ltb (slab_left (skeleton_of v) p) 0) j; place = 0 }

    like_outside : Like outside outside
    like_outside = record { has = tt; has_more = tt; real = item_listed w c.sound_more outside tt; same = face_at _ _ _ (sym first_widened); name = ap first_or (sym b.faces) }

    like_dart : (k : DartId) → HasDart w k → Like (beside (whole_name d t n m k)) (beside k)
    like_dart k o =
        let z = edge_split_in_two.dart (skeleton_of v) (skeleton_of w) e p rest (dart_in w k) split follows (is_dart_w k o) in
        record {
          has = rep_there k o;
          has_more = o;
          real = item_listed w c.sound_more (beside k) o;
          same = face_sym _ _ _ (subst (λ x. SameFace (skeleton_of v) (widened (skeleton_of v) p (left_of_dart (skeleton_of w) (dart_in w k))) (left_of_dart (skeleton_of v) x)) (drawn k o) z);
          name = sym (ap (face_in s) (name k o) ∙ b.beside (whole_name d t n m k) (rep_there k o));
        }

    like_vertex : (z : VertexId) → HasVertex v z → IsBare v z → IsBare w z → Like (round z) (round z)
    like_vertex z o none none' =
        let h : HasItem w (round z) = (c.halves.vertex_has z o, none') in
        record {
          has = (o, none);
          has_more = h;
          real = item_listed w c.sound_more (round z) h;
          same = face_at _ _ _ (sym (ap (λ x. widened (skeleton_of v) p (left_cell (skeleton_of w) x)) (c.halves.vertex_point z o) ∙ edge_split_in_two.left (skeleton_of v) (skeleton_of w) e p rest (point_in v z) split (c.sound.drawn.proper z o).positive));
          name = sym (b.round z o);
        }

    bare_up : (z : VertexId) → HasVertex v z → IsBare v z → IsBare w z
    bare_up z o none k out = elim (where_is v w d t n m u i z k out.0 out.1) [
      | inl r ↦ not_w v w d t n m u i z o r.0
      | inr r ↦ elim r [ inl q ↦ none t (c.halves.has_t, sym q.0) | inr q ↦ none k (q.0, q.1) ]
    ]

    bare_down : (z : VertexId) → IsBare w z → IsBare v z
    bare_down z none k out = elim (cases_dart k t) [
      | inl q ↦ none m (c.halves.has_m, c.halves.source_m ∙ ap (source_in v) (sym q) ∙ out.1)
      | inr nt ↦ none k (c.halves.has_old k out.0, c.halves.source_old k out.0 nt ∙ out.1)
    ]

    not_u : (z : VertexId) → IsBare w z → z ≢ u
    not_u z none q = none t (c.halves.has_old t c.halves.has_t, c.halves.source_t ∙ sym q)

    to : (y : Item) → HasItem w y → (x : Item) × Like x y
    to outside h = (outside, like_outside)
    to (beside k) h = (beside (whole_name d t n m k), like_dart k h)
    to (round z) h = (round z, like_vertex z (c.halves.vertex_had z h.0 (not_u z h.1)) (bare_down z h.1) h.1)

    from : (x : Item) → HasItem v x → (y : Item) × Like x y
    from outside h = (outside, like_outside)
    from (beside k) h = (beside k, subst (λ x. Like (beside x) (beside k)) (old_name k h) (like_dart k (c.halves.has_old k h)))
    from (round z) h = (round z, like_vertex z h.0 h.1 (bare_up z h.0 h.1))

    -- the face named for a point
    stays : (a : FaceId) (q : Point) → HasWeight q → IsFaceRound v f a q → IsFaceRound w s a q
    stays a q positive r =
        let j = from r.0 r.1 in
        let here : SlabCell = left_cell (skeleton_of w) q in
        let real : Contains (cells (skeleton_of w)) (left_cell (skeleton_of w) q) = member_in (cells (skeleton_of w)) _ (cell_there (skeleton_of w) q c.sound_more.plane positive) in
        let back : widened (skeleton_of v) p (left_cell (skeleton_of w) q) ≡ left_cell (skeleton_of v) q = edge_split_in_two.left (skeleton_of v) (skeleton_of w) e p rest q split positive in
        (j.0, j.1.has_more, sym j.1.name ∙ r.2, (law (cell_at w j.0) here j.1.real real).1 (face_trans _ _ _ _ (face_sym _ _ _ j.1.same) (face_trans _ _ _ _ r.3 (face_at _ _ _ (sym back)))))

    told : AreFacesTold v f ↔ AreFacesTold w s
    told = (
      faces_follow v w f s (widened (skeleton_of v) p) (Contains (cells (skeleton_of w))) law b.faces to from,
      faces_followed v w f s (widened (skeleton_of v) p) (Contains (cells (skeleton_of w))) law b.faces to from,
    )

pub split_steps : SplitSteps
split_steps = record {
  cycled = λ v w f s d t n m u p c b. cycled v w d t n m u p c f s b;
  told = λ v w f s d t n m u p c b. told v w d t n m u p c f s b;
  stays = λ v w f s d t n m u p c b a q positive r. stays v w d t n m u p c f s b a q positive r;
}
