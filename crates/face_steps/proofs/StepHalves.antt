-- SplitEdge and MergeEdge: the tables that the step makes stand.
use Rattle.std.proofs.Common.{◌≡◌, ◌≢◌, Some, None, IsSome, refl, sym, ap, ◌∙◌, subst, inl, inr}
use Rattle.exact_plane.specs.Point.{Point}
use Rattle.slab_laws.specs.declared.names.DartId.{DartId}
use Rattle.slab_laws.specs.declared.names.FaceId.{FaceId}
use Rattle.slab_laws.specs.declared.names.VertexId.{VertexId}
use Rattle.slab_laws.specs.Skeleton.{HasWeight}
use Rattle.slab_laws.specs.FacesSound.{lead_in, IsComplete}
use Rattle.slab_laws.specs.Tables.{row_at}
use Rattle.slab_laws.specs.View.{View, Faces, HasVertex, HasDart, HasCycle, source_in, cycle_or, cycle_in}
use Rattle.arr_notes.specs.FaceSteps.{step_faces, in_two, in_one}
use Rattle.arr_notes.proofs.Names.{cases_dart, cases_vertex}
use Rattle.arr_notes.proofs.RowLaws.{ascend-put, ascend-del}
use Rattle.arr_notes.proofs.Reading.{dart_number, none_there}
use Rattle.arr_notes.proofs.VertexReads.{put_hit, put_miss, del_hit, del_miss}
use Rattle.sound_views.proofs.ListedRows.{is_some_by}
use Rattle.rotation_order.specs.VertexRings.{IsBare}
use Rattle.face_changes.proofs.CycleNames.{lead_step}
use Rattle.face_steps.specs.SplitSteps.{IsSplitApart, AreHalvesTabled}
use Rattle.face_steps.specs.VertexSteps.{IsFaceRound}
use Rattle.face_steps.specs.Tabled.{AreTabled}
use Rattle.face_steps.proofs.SplitSteps.{split_steps}

-- ---- an edge in two, and two in one
module _ (v w : View) (d t n m : DartId) (u : VertexId) (p : Point) (c : IsSplitApart v w d t n m u p) where
  not_n : (k : DartId) → HasDart v k → k ≢ n
  not_n k o e = c.halves.n_new (subst (HasDart v) e o)

  not_m : (k : DartId) → HasDart v k → k ≢ m
  not_m k o e = c.halves.m_new (subst (HasDart v) e o)

  split_bare_up : (z : VertexId) → HasVertex v z → IsBare v z → IsBare w z
  split_bare_up z o none k out = elim (cases_dart k n) [
    | inl e ↦ c.halves.w_new (subst (HasVertex v) (sym out.1 ∙ ap (source_in w) e ∙ c.halves.source_n) o)
    | inr i ↦ elim (cases_dart k m) [
      | inl e ↦ none t (c.halves.has_t, sym c.halves.source_m ∙ ap (source_in w) (sym e) ∙ out.1)
      | inr j ↦ elim (cases_dart k t) [
        | inl e ↦ c.halves.w_new (subst (HasVertex v) (sym out.1 ∙ ap (source_in w) e ∙ c.halves.source_t) o)
        | inr l ↦ let K = c.halves.had k out.0 i j in none k (K, sym (c.halves.source_old k K l) ∙ out.1)
      ]
    ]
  ]

  split_bare_down : (z : VertexId) → IsBare w z → IsBare v z
  split_bare_down z none k out = elim (cases_dart k t) [
    | inl q ↦ none m (c.halves.has_m, c.halves.source_m ∙ ap (source_in v) (sym q) ∙ out.1)
    | inr nt ↦ none k (c.halves.has_old k out.0, c.halves.source_old k out.0 nt ∙ out.1)
  ]

  not_u : (z : VertexId) → IsBare w z → z ≢ u
  not_u z none q = none t (c.halves.has_old t c.halves.has_t, c.halves.source_t ∙ sym q)

  module _ (f : Faces) (h : AreTabled v f) where
    abbrev s : Faces
    s = step_faces w f (in_two d t n m)

    row_n : row_at s.cycle_of n.0 ≡ Some (cycle_in f d)
    row_n = put_miss m.0 (cycle_in f t) _ n.0 (dart_number n m c.halves.n_m) ∙ put_hit n.0 (cycle_in f d) f.cycle_of

    row_m : row_at s.cycle_of m.0 ≡ Some (cycle_in f t)
    row_m = put_hit m.0 (cycle_in f t) _

    row_old : (k : DartId) → k ≢ n → k ≢ m → row_at s.cycle_of k.0 ≡ row_at f.cycle_of k.0
    row_old k i j = put_miss m.0 (cycle_in f t) _ k.0 (dart_number k m j) ∙ put_miss n.0 (cycle_in f d) f.cycle_of k.0 (dart_number k n i)

    reads : (k : DartId) → HasDart v k → cycle_in s k ≡ cycle_in f k
    reads k o = ap cycle_or (row_old k (not_n k o) (not_m k o))

    halves : AreHalvesTabled v f s d t n m
    halves = record { faces = refl; first = ap cycle_or row_n; second = ap cycle_or row_m; darts = reads; kinds = λ k o. refl; beside = λ k o. refl; round = λ z o. refl }

    complete : IsComplete w s
    complete = record {
      cycles_ascend = h.complete.cycles_ascend;
      faces_ascend = h.complete.faces_ascend;
      cycle_of_ascend = ascend-put m.0 _ _ (ascend-put n.0 _ f.cycle_of h.complete.cycle_of_ascend);
      bare_ascend = h.complete.bare_ascend;
      cycle_rows = λ k. (
        λ o. elim (cases_dart k n) [
          | inl e ↦ is_some_by _ _ (ap (λ j. row_at s.cycle_of j.0) e ∙ row_n)
          | inr i ↦ elim (cases_dart k m) [ inl e ↦ is_some_by _ _ (ap (λ j. row_at s.cycle_of j.0) e ∙ row_m) | inr j ↦ subst IsSome (sym (row_old k i j)) ((h.complete.cycle_rows k).0 (c.halves.had k o i j)) ]
        ],
        λ o. elim (cases_dart k n) [
          | inl e ↦ subst (HasDart w) (sym e) c.halves.has_n
          | inr i ↦ elim (cases_dart k m) [ inl e ↦ subst (HasDart w) (sym e) c.halves.has_m | inr j ↦ c.halves.has_old k ((h.complete.cycle_rows k).1 (subst IsSome (row_old k i j) o)) ]
        ],
      );
      cycle_has = λ k o. elim (cases_dart k n) [
        | inl e ↦ subst (HasCycle f) (sym (ap (cycle_in s) e ∙ halves.first)) (h.complete.cycle_has d c.halves.has_d)
        | inr i ↦ elim (cases_dart k m) [
          | inl e ↦ subst (HasCycle f) (sym (ap (cycle_in s) e ∙ halves.second)) (h.complete.cycle_has t c.halves.has_t)
          | inr j ↦ let K = c.halves.had k o i j in subst (HasCycle f) (sym (reads k K)) (h.complete.cycle_has k K)
        ]
      ];
      dart_has = λ e o. let r = h.complete.dart_has e o in (r.0, c.halves.has_old r.0 r.1, reads r.0 r.1 ∙ r.2);
      face_has = h.complete.face_has;
      bare = λ z o. elim (cases_vertex z u) [
        | inl e ↦ (λ k. absurd (c.halves.w_new (subst (HasVertex v) e (h.complete.bare_vertex z k))), λ k. absurd (not_u z k e))
        | inr i ↦
            let Z = c.halves.vertex_had z o i in
            let r = h.complete.bare z Z in
            (λ k. split_bare_up z Z (r.0 k), λ k. r.1 (split_bare_down z k))
      ];
      bare_vertex = λ z o. c.halves.vertex_has z (h.complete.bare_vertex z o);
      bare_has = h.complete.bare_has;
    }

    pub split_leaves : (a : FaceId) (q : Point) → HasWeight q → IsFaceRound v f a q → IsFaceRound w (step_faces w f (in_two d t n m)) a q
    split_leaves a q positive r = split_steps.stays v w f s d t n m u p c halves a q positive r

    pub edge_split : AreTabled w (step_faces w f (in_two d t n m))
    edge_split = record { complete = complete; cycled = (split_steps.cycled v w f s d t n m u p c halves).0 h.cycled; told = (split_steps.told v w f s d t n m u p c halves).0 h.told }

  module _ (s : Faces) (h : AreTabled w s) where
    abbrev f : Faces
    f = step_faces v s (in_one n m)

    gone_n : row_at f.cycle_of n.0 ≡ None
    gone_n = del_miss m.0 _ n.0 (ascend-del n.0 s.cycle_of h.complete.cycle_of_ascend) (dart_number n m c.halves.n_m) ∙ del_hit n.0 s.cycle_of h.complete.cycle_of_ascend

    gone_m : row_at f.cycle_of m.0 ≡ None
    gone_m = del_hit m.0 _ (ascend-del n.0 s.cycle_of h.complete.cycle_of_ascend)

    row_left : (k : DartId) → k ≢ n → k ≢ m → row_at f.cycle_of k.0 ≡ row_at s.cycle_of k.0
    row_left k i j = del_miss m.0 _ k.0 (ascend-del n.0 s.cycle_of h.complete.cycle_of_ascend) (dart_number k m j) ∙ del_miss n.0 s.cycle_of k.0 h.complete.cycle_of_ascend (dart_number k n i)

    pub left_reads : (k : DartId) → HasDart v k → cycle_in f k ≡ cycle_in s k
    left_reads k o = ap cycle_or (row_left k (not_n k o) (not_m k o))

    -- n follows d, and t follows m
    pub cycle_n : cycle_in s n ≡ cycle_in s d
    cycle_n =
        let D = c.halves.has_old d c.halves.has_d in
        (h.cycled.orbits n d c.halves.has_n D).1 (sym (lead_step w c.sound_more d D ∙ ap (lead_in w) c.onward))

    pub cycle_m : cycle_in s m ≡ cycle_in s t
    cycle_m =
        let T = c.halves.has_old t c.halves.has_t in
        (h.cycled.orbits m t c.halves.has_m T).1 (lead_step w c.sound_more m c.halves.has_m ∙ ap (lead_in w) c.backward)

    halves_left : AreHalvesTabled v f s d t n m
    halves_left = record {
      faces = refl;
      first = cycle_n ∙ sym (left_reads d c.halves.has_d);
      second = cycle_m ∙ sym (left_reads t c.halves.has_t);
      darts = λ k o. sym (left_reads k o);
      kinds = λ k o. refl;
      beside = λ k o. refl;
      round = λ z o. refl;
    }

    complete_left : IsComplete v f
    complete_left = record {
      cycles_ascend = h.complete.cycles_ascend;
      faces_ascend = h.complete.faces_ascend;
      cycle_of_ascend = ascend-del m.0 _ (ascend-del n.0 s.cycle_of h.complete.cycle_of_ascend);
      bare_ascend = h.complete.bare_ascend;
      cycle_rows = λ k. (
        λ o. subst IsSome (sym (row_left k (not_n k o) (not_m k o))) ((h.complete.cycle_rows k).0 (c.halves.has_old k o)),
        λ o. elim (cases_dart k n) [
          | inl e ↦ absurd (none_there _ (ap (λ j. row_at f.cycle_of j.0) e ∙ gone_n) o)
          | inr i ↦ elim (cases_dart k m) [
            | inl e ↦ absurd (none_there _ (ap (λ j. row_at f.cycle_of j.0) e ∙ gone_m) o)
            | inr j ↦ c.halves.had k ((h.complete.cycle_rows k).1 (subst IsSome (row_left k i j) o)) i j
          ]
        ],
      );
      cycle_has = λ k o. subst (HasCycle s) (sym (left_reads k o)) (h.complete.cycle_has k (c.halves.has_old k o));
      dart_has = λ e o.
          let r = h.complete.dart_has e o in
          elim (cases_dart r.0 n) [
            | inl z ↦ (d, c.halves.has_d, left_reads d c.halves.has_d ∙ sym cycle_n ∙ ap (cycle_in s) (sym z) ∙ r.2)
            | inr i ↦ elim (cases_dart r.0 m) [
              | inl z ↦ (t, c.halves.has_t, left_reads t c.halves.has_t ∙ sym cycle_m ∙ ap (cycle_in s) (sym z) ∙ r.2)
              | inr j ↦ let K = c.halves.had r.0 r.1 i j in (r.0, K, left_reads r.0 K ∙ r.2)
            ]
          ];
      face_has = h.complete.face_has;
      bare = λ z o.
          let r = h.complete.bare z (c.halves.vertex_has z o) in
          (λ k. split_bare_down z (r.0 k), λ k. r.1 (split_bare_up z o k));
      bare_vertex = λ z o.
          let Z = h.complete.bare_vertex z o in
          c.halves.vertex_had z Z (not_u z ((h.complete.bare z Z).0 o));
      bare_has = h.complete.bare_has;
    }

    pub edge_merged : AreTabled v (step_faces v s (in_one n m))
    edge_merged = record { complete = complete_left; cycled = (split_steps.cycled v w f s d t n m u p c halves_left).1 h.cycled; told = (split_steps.told v w f s d t n m u p c halves_left).1 h.told }
