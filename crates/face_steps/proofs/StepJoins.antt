-- Joins and Breaks: the tables that the step makes stand.
use Rattle.std.proofs.Common.{◌≡◌, ◌≢◌, ◌↔◌, ◌==◌, cond, Some, IsSome, option_map, refl, sym, ap, ◌∙◌, subst, inl, inr}
use Rattle.exact_plane.specs.Line.{Line}
use Rattle.slab_laws.specs.declared.names.CycleId.{CycleId}
use Rattle.slab_laws.specs.declared.names.DartId.{DartId}
use Rattle.slab_laws.specs.declared.names.VertexId.{VertexId}
use Rattle.slab_laws.specs.FacesSound.{lead_in, IsCycled, IsComplete}
use Rattle.slab_laws.specs.Tables.{row_at}
use Rattle.slab_laws.specs.View.{View, Faces, HasDart, HasCycle, HasFace, next_in, cycle_or, kind_or, face_or, cycle_in, face_in}
use Rattle.arr_notes.specs.FaceSteps.{step_faces, joins}
use Rattle.arr_notes.proofs.Names.{cases_dart}
use Rattle.arr_notes.proofs.RowLaws.{row_at-each, ascend-put, ascend-each, ascend-del}
use Rattle.arr_notes.proofs.Reading.{dart_number, none_there}
use Rattle.arr_notes.proofs.VertexReads.{put_hit, put_miss, del_hit, del_miss}
use Rattle.sound_views.proofs.ListedRows.{is_some_by}
use Rattle.rotation_order.specs.VertexRings.{IsBare}
use Rattle.face_changes.specs.FacesByPairs.{beside, AreFacesTold}
use Rattle.face_steps.specs.EdgePairs.{IsEdgeApart}
use Rattle.face_steps.specs.OneFace.{AreFacesKept, IsJoinApart}
use Rattle.face_steps.specs.StepPremises.{FitsJoin}
use Rattle.face_steps.specs.Tabled.{AreTabled}
use Rattle.face_steps.proofs.CyclesApart.{cycle_cases, cycles_apart, made_one, two_by_tables}
use Rattle.face_steps.proofs.EdgePairs.{turned_round, up, start_dart, sorted, bare_below, vertex_above, vertex_below}
use Rattle.face_steps.proofs.FaceRows.{map_some, map_cycle, cycle_number, swap_hit, swap_miss}
use Rattle.face_steps.proofs.OneFace.{one_face_on_both_sides}
use Rattle.face_steps.proofs.TwoFaces.{bare_above}

module _ (v w : View) (x y : DartId) (p q : VertexId) (l : Line) (m : IsEdgeApart v w x y p q l) (a b : DartId) (A : HasDart v a) (B : HasDart v b) (na : next_in w a ≡ x) (nb : next_in w b ≡ y) where
  pub no_bare_start : IsBare v p → ⊥
  no_bare_start none = none _ (start_dart v w x y p q l m a A na)

  pub no_bare_end : IsBare v q → ⊥
  no_bare_end none = none _ (start_dart v w y x q p l (turned_round v w x y p q l m) b B nb)

  pub bare_up : (u : VertexId) → IsBare v u → IsBare w u
  bare_up u none = bare_above v w x y p q l m a b A B na nb u none

  -- ---- the edge comes
  module _ (f : Faces) (kept gone : CycleId) (t : FitsJoin f a b kept gone) (h : AreTabled v f) where
    abbrev s : Faces
    s = step_faces w f (joins x y kept gone)

    abbrev swap : CycleId → CycleId
    swap c = cond (c.0 == gone.0) kept c

    -- ---- what is read
    row_first : row_at s.cycle_of x.0 ≡ Some kept
    row_first = row_at-each (λ k. swap) _ x.0 ∙ ap (option_map swap) (put_miss y.0 kept _ x.0 (dart_number x y m.more.two_names) ∙ put_hit x.0 kept f.cycle_of) ∙ twice
      where
        twice : option_map swap (Some kept) ≡ Some kept
        twice = ap (λ c. Some c) (swap_miss gone kept kept t.two)

    row_second : row_at s.cycle_of y.0 ≡ Some kept
    row_second = row_at-each (λ k. swap) _ y.0 ∙ ap (option_map swap) (put_hit y.0 kept _) ∙ ap (λ c. Some c) (swap_miss gone kept kept t.two)

    row_old : (k : DartId) → k ≢ x → k ≢ y → row_at s.cycle_of k.0 ≡ option_map swap (row_at f.cycle_of k.0)
    row_old k i j = row_at-each (λ k. swap) _ k.0 ∙ ap (option_map swap) (put_miss y.0 kept _ k.0 (dart_number k y j) ∙ put_miss x.0 kept _ k.0 (dart_number k x i))

    not_x : (k : DartId) → HasDart v k → k ≢ x
    not_x k o e = m.more.first_new (subst (HasDart v) e o)

    not_y : (k : DartId) → HasDart v k → k ≢ y
    not_y k o e = m.more.second_new (subst (HasDart v) e o)

    reads : (k : DartId) → HasDart v k → cycle_in s k ≡ swap (cycle_in f k)
    reads k o = ap cycle_or (row_old k (not_x k o) (not_y k o)) ∙ map_cycle swap (row_at f.cycle_of k.0) ((h.complete.cycle_rows k).0 o)

    record_kept : (c : CycleId) → c ≢ gone → row_at s.cycles c.0 ≡ row_at f.cycles c.0
    record_kept c e = del_miss gone.0 f.cycles c.0 h.complete.cycles_ascend (cycle_number c gone e)

    is_join : IsJoinApart v f s x y a b kept gone
    is_join = record {
      two = t.two;
      ends = t.ends;
      first = ap cycle_or row_first;
      second = ap cycle_or row_second;
      moved = λ k o e. reads k o ∙ swap_hit gone kept (cycle_in f k) e;
      others = λ k o n. reads k o ∙ swap_miss gone kept (cycle_in f k) n;
      kind = t.inner;
      kinds = λ k o n. ap kind_or (record_kept (cycle_in f k) n);
    }

    cycled : IsCycled w s
    cycled = cycles_apart.join v w f s x y p q l a b kept gone m A B na nb is_join h.cycled

    apart : lead_in v a ≢ lead_in v b
    apart = two_by_tables v w x y p q l m f s a b kept gone A B is_join h.cycled

    -- both cycles are of one face
    one_face : face_in f (cycle_in f a) ≡ face_in f (cycle_in f b)
    one_face = (h.told.same (beside a) (beside b) A B).1 (made_one v w x y p q l m f s a b kept gone A B na nb is_join apart).one_face

    same_face : face_in f kept ≡ face_in f gone
    same_face = elim t.ends [
      | inl e ↦ ap (face_in f) (sym e.0) ∙ one_face ∙ ap (face_in f) e.1
      | inr e ↦ ap (face_in f) (sym e.1) ∙ sym one_face ∙ ap (face_in f) e.0
    ]

    face_old : (k : DartId) → HasDart v k → face_in s (cycle_in s k) ≡ face_in f (cycle_in f k)
    face_old k o = elim (cycle_cases (cycle_in f k) gone) [
      | inl e ↦ ap (face_in s) (is_join.moved k o e) ∙ ap face_or (record_kept kept t.two) ∙ same_face ∙ ap (face_in f) (sym e)
      | inr n ↦ ap (face_in s) (is_join.others k o n) ∙ ap face_or (record_kept (cycle_in f k) n)
    ]

    are_kept : AreFacesKept v w f s x y p q
    are_kept = record { faces = refl; beside = face_old; round = λ u o none. refl; start = λ none. absurd (no_bare_start none); end = λ none. absurd (no_bare_end none) }

    lead_one : lead_in w x ≡ lead_in w y
    lead_one = (cycled.orbits x y m.more.first m.more.second).0 (is_join.first ∙ sym is_join.second)

    told : AreFacesTold w s
    told = (one_face_on_both_sides v w f s x y p q l m lead_one cycled are_kept).0 h.told

    -- ---- every row is there
    has_kept : HasCycle f kept
    has_kept = elim t.ends [ inl e ↦ subst (HasCycle f) e.0 (h.complete.cycle_has a A) | inr e ↦ subst (HasCycle f) e.1 (h.complete.cycle_has b B) ]

    has_still : (c : CycleId) → c ≢ gone → HasCycle f c → HasCycle s c
    has_still c n o = subst IsSome (sym (record_kept c n)) o

    had : (c : CycleId) → HasCycle s c → (c ≢ gone) × HasCycle f c
    had c o = let n : c ≢ gone = λ e. none_there (row_at s.cycles c.0) (ap (λ z. row_at s.cycles z.0) e ∙ del_hit gone.0 f.cycles h.complete.cycles_ascend) o in (n, subst IsSome (record_kept c n) o)

    rows : (k : DartId) → HasDart w k ↔ IsSome (row_at s.cycle_of k.0)
    rows k = (
      λ o. elim (sorted v w x y p q l m k o) [
        | inl z ↦ subst IsSome (sym (row_old k (not_x k z) (not_y k z))) ((map_some swap (row_at f.cycle_of k.0)).0 ((h.complete.cycle_rows k).0 z))
        | inr z ↦ elim z [ inl e ↦ is_some_by _ kept (ap (λ j. row_at s.cycle_of j.0) e ∙ row_first) | inr e ↦ is_some_by _ kept (ap (λ j. row_at s.cycle_of j.0) e ∙ row_second) ]
      ],
      λ o. elim (cases_dart k x) [
        | inl e ↦ subst (HasDart w) (sym e) m.more.first
        | inr n ↦ elim (cases_dart k y) [
          | inl e ↦ subst (HasDart w) (sym e) m.more.second
          | inr n' ↦ up v w x y p q l m k ((h.complete.cycle_rows k).1 ((map_some swap (row_at f.cycle_of k.0)).1 (subst IsSome (row_old k n n') o)))
        ]
      ],
    )

    cycle_there : (k : DartId) → HasDart w k → HasCycle s (cycle_in s k)
    cycle_there k o = elim (sorted v w x y p q l m k o) [
      | inl z ↦ elim (cycle_cases (cycle_in f k) gone) [
        | inl e ↦ subst (HasCycle s) (sym (is_join.moved k z e)) (has_still kept t.two has_kept)
        | inr n ↦ subst (HasCycle s) (sym (is_join.others k z n)) (has_still (cycle_in f k) n (h.complete.cycle_has k z))
      ]
      | inr z ↦ subst (HasCycle s) (sym (elim z [ inl e ↦ ap (cycle_in s) e ∙ is_join.first | inr e ↦ ap (cycle_in s) e ∙ is_join.second ])) (has_still kept t.two has_kept)
    ]

    complete : IsComplete w s
    complete = record {
      cycles_ascend = ascend-del gone.0 f.cycles h.complete.cycles_ascend;
      faces_ascend = h.complete.faces_ascend;
      cycle_of_ascend = ascend-each _ _ (ascend-put y.0 kept _ (ascend-put x.0 kept f.cycle_of h.complete.cycle_of_ascend));
      bare_ascend = h.complete.bare_ascend;
      cycle_rows = rows;
      cycle_has = cycle_there;
      dart_has = λ c o.
          let r = had c o in
          let d = h.complete.dart_has c r.1 in
          (d.0, up v w x y p q l m d.0 d.1, is_join.others d.0 d.1 (λ e. r.0 (sym d.2 ∙ e)) ∙ d.2);
      face_has = λ c o. let r = had c o in subst (HasFace f) (sym (ap face_or (record_kept c r.0))) (h.complete.face_has c r.1);
      bare = λ u o.
          let r = h.complete.bare u (vertex_below v w x y p q l m u o) in
          (λ k. bare_up u (r.0 k), λ k. r.1 (bare_below v w x y p q l m u k));
      bare_vertex = λ u o. vertex_above v w x y p q l m u (h.complete.bare_vertex u o);
      bare_has = h.complete.bare_has;
    }

    pub joined : AreTabled w (step_faces w f (joins x y kept gone))
    joined = record { complete = complete; cycled = cycled; told = told }
