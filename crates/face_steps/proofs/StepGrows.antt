-- Grows and Shrinks: the tables that the step makes stand. x leaves the end that has darts without the edge, after the dart a; q is the end that is bare without it.
use Rattle.std.proofs.Common.{◌≡◌, ◌≢◌, ◌↔◌, Some, None, IsSome, refl, sym, ap, ◌∙◌, subst, inl, inr}
use Rattle.std.specs.List.{Contains}
use Rattle.exact_plane.specs.Line.{Line}
use Rattle.slab_laws.specs.declared.names.CycleId.{CycleId}
use Rattle.slab_laws.specs.declared.names.DartId.{DartId}
use Rattle.slab_laws.specs.declared.names.FaceId.{FaceId}
use Rattle.slab_laws.specs.declared.names.VertexId.{VertexId}
use Rattle.slab_laws.specs.Cycles.{left_of_dart}
use Rattle.slab_laws.specs.FacesSound.{lead_in, IsCycled, IsComplete}
use Rattle.slab_laws.specs.Meets.{SameFace}
use Rattle.slab_laws.specs.Slabs.{left_cell}
use Rattle.slab_laws.specs.Sound.{skeleton_of, dart_in}
use Rattle.slab_laws.specs.Tables.{row_at, names, NamesAscend}
use Rattle.slab_laws.specs.View.{View, Faces, HasVertex, HasDart, HasCycle, HasFace, HasBareFace, IsOutOf, point_in, source_in, twin_in, next_in, cycle_or, kind_or, face_or, bare_or, cycle_in, kind_in, face_in, bare_face_in}
use Rattle.slab_faces.proofs.Turns.{face_trans}
use Rattle.arr_notes.specs.FaceSteps.{step_faces, grows, shrinks}
use Rattle.arr_notes.proofs.Names.{cases_dart, cases_vertex}
use Rattle.arr_notes.proofs.RowLaws.{ascend-put, ascend-del}
use Rattle.arr_notes.proofs.Reading.{dart_number, vertex_number, none_there}
use Rattle.arr_notes.proofs.VertexReads.{put_hit, put_miss, del_hit, del_miss}
use Rattle.sound_views.proofs.ListedRows.{is_some_by}
use Rattle.rotation_order.specs.VertexRings.{IsBare}
use Rattle.sound_changes.specs.NextLaws.{IsBareEnd}
use Rattle.sound_changes.proofs.RingsKept.{source_old}
use Rattle.face_changes.specs.FacesByPairs.{beside, round}
use Rattle.face_changes.specs.OneMoreEdge.{GrowsCycle}
use Rattle.face_changes.proofs.OneMoreEdge.{one_kind_each, cycles_with_one_more_edge, sides_of_one_more_edge}
use Rattle.face_changes.proofs.CycleNames.{lead_step}
use Rattle.face_steps.specs.EdgePairs.{IsEdgeApart}
use Rattle.face_steps.specs.OneFace.{AreFacesKept, IsGrowthApart}
use Rattle.face_steps.specs.Tabled.{AreTabled}
use Rattle.face_steps.proofs.CyclesApart.{cycles_apart}
use Rattle.face_steps.proofs.EdgePairs.{turned_round, up, start_dart, sorted, bare_below, vertex_above, vertex_below, has_end, is_more, is_dart, twins, lead_second, comes, bare_start, old_lies, vertex_lies, bare_end}
use Rattle.face_steps.proofs.OneFace.{one_face_on_both_sides}
use Rattle.face_steps.proofs.StepHoles.{not_x, not_y, end_left}

-- with the edge: s has the rows of f, and both darts on c, and not that of q
pub record AreGrownRows (f s : Faces) (x y : DartId) (q : VertexId) (c : CycleId) : Type 0 where
  pub old : (k : DartId) → k ≢ x → k ≢ y → row_at s.cycle_of k.0 ≡ row_at f.cycle_of k.0
  pub first : row_at s.cycle_of x.0 ≡ Some c
  pub second : row_at s.cycle_of y.0 ≡ Some c
  pub bare_gone : row_at s.bare q.0 ≡ None
  pub bare_old : (u : VertexId) → u ≢ q → row_at s.bare u.0 ≡ row_at f.bare u.0
  pub cycles : s.cycles ≡ f.cycles
  pub faces : s.faces ≡ f.faces
  pub cycle_of_ascend : NamesAscend (names s.cycle_of)
  pub bare_ascend : NamesAscend (names s.bare)

-- without it: f has the rows of s, but for both darts, and that of q
pub record AreShrunkRows (f s : Faces) (x y : DartId) (q : VertexId) (a : FaceId) : Type 0 where
  pub old : (k : DartId) → k ≢ x → k ≢ y → row_at f.cycle_of k.0 ≡ row_at s.cycle_of k.0
  pub first : row_at f.cycle_of x.0 ≡ None
  pub second : row_at f.cycle_of y.0 ≡ None
  pub bare_new : row_at f.bare q.0 ≡ Some a
  pub bare_old : (u : VertexId) → u ≢ q → row_at f.bare u.0 ≡ row_at s.bare u.0
  pub cycles : f.cycles ≡ s.cycles
  pub faces : f.faces ≡ s.faces
  pub cycle_of_ascend : NamesAscend (names f.cycle_of)
  pub bare_ascend : NamesAscend (names f.bare)

module _ (v w : View) (x y : DartId) (p q : VertexId) (l : Line) (m : IsEdgeApart v w x y p q l) (a : DartId) (A : HasDart v a) (na : next_in w a ≡ x) (bare : IsBare v q) where
  back : IsEdgeApart v w y x q p l
  back = turned_round v w x y p q l m

  grown : GrowsCycle (skeleton_of v) (skeleton_of w) (dart_in w x) (dart_in v a)
  grown =
      cycles_with_one_more_edge.grown (skeleton_of v) (skeleton_of w) (dart_in w x) (dart_in v a) (is_more v w x y p q l m) (is_dart v w x y p q l m a A) (comes v w x y p q l m a A na)
      (subst (IsBareEnd (skeleton_of v)) (twins v w x y p q l m) (bare_end v w y x q p l back bare))

  pub one : lead_in w x ≡ lead_in w y
  one = grown.first ∙ sym grown.second ∙ sym (lead_second v w x y p q l m)

  lead_a : lead_in w a ≡ lead_in w x
  lead_a = lead_step w m.sound_more a (up v w x y p q l m a A) ∙ ap (lead_in w) na

  -- the start has a dart without the edge
  start_out : IsOutOf v p (twin_in v a)
  start_out = start_dart v w x y p q l m a A na

  start_full : IsBare v p → ⊥
  start_full none = none (twin_in v a) start_out

  bare_elsewhere : (u : VertexId) → u ≢ q → IsBare v u → IsBare w u
  bare_elsewhere u n none k o = elim (sorted v w x y p q l m k o.0) [
    | inl z ↦ none k (z, sym (source_old v w x y p q l m.more k z) ∙ o.1)
    | inr r ↦ elim r [
      | inl z ↦ none (twin_in v a) (start_out.0, start_out.1 ∙ sym m.more.source_first ∙ ap (source_in w) (sym z) ∙ o.1)
      | inr z ↦ n (sym o.1 ∙ ap (source_in w) z ∙ m.more.source_second)
    ]
  ]

  -- the bare end is in the face beside a
  together : SameFace (skeleton_of v) (left_of_dart (skeleton_of v) (dart_in v a)) (left_cell (skeleton_of v) (point_in v q))
  together =
      let i = old_lies v w x y p q l m a A in
      let j = vertex_lies v w x y p q l m q (has_end v w x y p q l m) in
      let e = bare_start v w y x q p l back bare in
      let k = one_kind_each.face (skeleton_of w) (dart_in w a) (dart_in w y) m.sound_more.plane (lead_a ∙ one) in
      (sides_of_one_more_edge.one (skeleton_of v) (skeleton_of w) (dart_in w x) _ _ _ _ (is_more v w x y p q l m) (one ∙ lead_second v w x y p q l m) i j).0 (face_trans _ _ _ _ k e)

  module _ (f s : Faces) (c : CycleId) (cycle : cycle_in f a ≡ c) (r : AreGrownRows f s x y q c) (h : AreTabled v f) where
    reads : (k : DartId) → HasDart v k → cycle_in s k ≡ cycle_in f k
    reads k o = ap cycle_or (r.old k (not_x v w x y p q l m k o) (not_y v w x y p q l m k o))

    kind_same : (e : CycleId) → kind_in s e ≡ kind_in f e
    kind_same e = ap (λ rs. kind_or (row_at rs e.0)) r.cycles

    face_same : (e : CycleId) → face_in s e ≡ face_in f e
    face_same e = ap (λ rs. face_or (row_at rs e.0)) r.cycles

    is_growth : IsGrowthApart v f s x y a
    is_growth = record {
      kept = record { darts = reads; kinds = λ k o. kind_same (cycle_in f k) };
      first = ap cycle_or r.first ∙ sym cycle;
      second = ap cycle_or r.second ∙ sym cycle;
    }

    cycled : IsCycled w s
    cycled = (cycles_apart.growth v w f s x y p q l a m A na bare is_growth).0 h.cycled

    face_end : face_in f (cycle_in f a) ≡ bare_face_in f q
    face_end = (h.told.same (beside a) (round q) A (has_end v w x y p q l m, bare)).1 together

    are_kept : AreFacesKept v w f s x y p q
    are_kept = record {
      faces = r.faces;
      beside = λ k o. ap (face_in s) (reads k o) ∙ face_same (cycle_in f k);
      round = λ u o none. ap bare_or (r.bare_old u (λ e. end_left v w x y p q l m (subst (IsBare w) e none)));
      start = λ none. absurd (start_full none);
      end = λ none. ap (face_in s) is_growth.second ∙ face_same (cycle_in f a) ∙ face_end;
    }

    rows : (k : DartId) → HasDart w k ↔ IsSome (row_at s.cycle_of k.0)
    rows k = (
      λ o. elim (sorted v w x y p q l m k o) [
        | inl z ↦ subst IsSome (sym (r.old k (not_x v w x y p q l m k z) (not_y v w x y p q l m k z))) ((h.complete.cycle_rows k).0 z)
        | inr z ↦ elim z [ inl e ↦ is_some_by _ _ (ap (λ j. row_at s.cycle_of j.0) e ∙ r.first) | inr e ↦ is_some_by _ _ (ap (λ j. row_at s.cycle_of j.0) e ∙ r.second) ]
      ],
      λ o. elim (cases_dart k x) [
        | inl e ↦ subst (HasDart w) (sym e) m.more.first
        | inr n ↦ elim (cases_dart k y) [
          | inl e ↦ subst (HasDart w) (sym e) m.more.second
          | inr n' ↦ up v w x y p q l m k ((h.complete.cycle_rows k).1 (subst IsSome (r.old k n n') o))
        ]
      ],
    )

    has_cycle : (e : CycleId) → HasCycle f e → HasCycle s e
    has_cycle e o = subst (λ rs. IsSome (row_at rs e.0)) (sym r.cycles) o

    had_cycle : (e : CycleId) → HasCycle s e → HasCycle f e
    had_cycle e o = subst (λ rs. IsSome (row_at rs e.0)) r.cycles o

    has_face : (e : FaceId) → HasFace f e → HasFace s e
    has_face e o = subst (λ ns. Contains ns e.0) (sym r.faces) o

    not_end : (u : VertexId) → HasBareFace s u → u ≢ q
    not_end u o e = none_there _ (ap (λ z. row_at s.bare z.0) e ∙ r.bare_gone) o

    complete : IsComplete w s
    complete = record {
      cycles_ascend = subst (λ rs. NamesAscend (names rs)) (sym r.cycles) h.complete.cycles_ascend;
      faces_ascend = subst NamesAscend (sym r.faces) h.complete.faces_ascend;
      cycle_of_ascend = r.cycle_of_ascend;
      bare_ascend = r.bare_ascend;
      cycle_rows = rows;
      cycle_has = λ k o. elim (sorted v w x y p q l m k o) [
        | inl z ↦ subst (HasCycle s) (sym (reads k z)) (has_cycle (cycle_in f k) (h.complete.cycle_has k z))
        | inr z ↦ subst (HasCycle s) (sym (elim z [ inl e ↦ ap (cycle_in s) e ∙ is_growth.first | inr e ↦ ap (cycle_in s) e ∙ is_growth.second ])) (has_cycle (cycle_in f a) (h.complete.cycle_has a A))
      ];
      dart_has = λ e o. let d = h.complete.dart_has e (had_cycle e o) in (d.0, up v w x y p q l m d.0 d.1, reads d.0 d.1 ∙ d.2);
      face_has = λ e o. subst (HasFace s) (sym (face_same e)) (has_face (face_in f e) (h.complete.face_has e (had_cycle e o)));
      bare = λ u o. elim (cases_vertex u q) [
        | inl e ↦ (λ k. absurd (not_end u k e), λ k. absurd (end_left v w x y p q l m (subst (IsBare w) e k)))
        | inr n ↦
            let z = h.complete.bare u (vertex_below v w x y p q l m u o) in
            (λ k. bare_elsewhere u n (z.0 (subst IsSome (r.bare_old u n) k)), λ k. subst IsSome (sym (r.bare_old u n)) (z.1 (bare_below v w x y p q l m u k)))
      ];
      bare_vertex = λ u o. vertex_above v w x y p q l m u (h.complete.bare_vertex u (subst IsSome (r.bare_old u (not_end u o)) o));
      bare_has = λ u o. let n = not_end u o in subst (HasFace s) (sym (ap bare_or (r.bare_old u n))) (has_face (bare_face_in f u) (h.complete.bare_has u (subst IsSome (r.bare_old u n) o)));
    }

    pub grown_rows : AreTabled w s
    grown_rows = record { complete = complete; cycled = cycled; told = (one_face_on_both_sides v w f s x y p q l m one cycled are_kept).0 h.told }

  module _ (f s : Faces) (face : FaceId) (named : face_in s (cycle_in s x) ≡ face) (r : AreShrunkRows f s x y q face) (h : AreTabled w s) where
    cycle_a : cycle_in s x ≡ cycle_in s a
    cycle_a = (h.cycled.orbits x a m.more.first (up v w x y p q l m a A)).1 (sym lead_a)

    cycle_y : cycle_in s y ≡ cycle_in s x
    cycle_y = (h.cycled.orbits y x m.more.second m.more.first).1 (sym one)

    left_reads : (k : DartId) → HasDart v k → cycle_in f k ≡ cycle_in s k
    left_reads k o = ap cycle_or (r.old k (not_x v w x y p q l m k o) (not_y v w x y p q l m k o))

    kind_left : (e : CycleId) → kind_in f e ≡ kind_in s e
    kind_left e = ap (λ rs. kind_or (row_at rs e.0)) r.cycles

    face_left : (e : CycleId) → face_in f e ≡ face_in s e
    face_left e = ap (λ rs. face_or (row_at rs e.0)) r.cycles

    was_growth : IsGrowthApart v f s x y a
    was_growth = record {
      kept = record { darts = λ k o. sym (left_reads k o); kinds = λ k o. sym (kind_left (cycle_in f k)) };
      first = cycle_a ∙ sym (left_reads a A);
      second = cycle_y ∙ cycle_a ∙ sym (left_reads a A);
    }

    cycled_left : IsCycled v f
    cycled_left = (cycles_apart.growth v w f s x y p q l a m A na bare was_growth).1 h.cycled

    kept_left : AreFacesKept v w f s x y p q
    kept_left = record {
      faces = sym r.faces;
      beside = λ k o. sym (ap (face_in f) (left_reads k o) ∙ face_left (cycle_in s k));
      round = λ u o none. sym (ap bare_or (r.bare_old u (λ e. end_left v w x y p q l m (subst (IsBare w) e none))));
      start = λ none. absurd (start_full none);
      end = λ none. ap (face_in s) cycle_y ∙ named ∙ sym (ap bare_or r.bare_new);
    }

    rows_left : (k : DartId) → HasDart v k ↔ IsSome (row_at f.cycle_of k.0)
    rows_left k = (
      λ o. subst IsSome (sym (r.old k (not_x v w x y p q l m k o) (not_y v w x y p q l m k o))) ((h.complete.cycle_rows k).0 (up v w x y p q l m k o)),
      λ o. elim (cases_dart k x) [
        | inl e ↦ absurd (none_there _ (ap (λ j. row_at f.cycle_of j.0) e ∙ r.first) o)
        | inr n ↦ elim (cases_dart k y) [
          | inl e ↦ absurd (none_there _ (ap (λ j. row_at f.cycle_of j.0) e ∙ r.second) o)
          | inr n' ↦ elim (sorted v w x y p q l m k ((h.complete.cycle_rows k).1 (subst IsSome (r.old k n n') o))) [ inl z ↦ z | inr z ↦ elim z [ inl e ↦ absurd (n e) | inr e ↦ absurd (n' e) ] ]
        ]
      ],
    )

    cycle_left : (e : CycleId) → HasCycle s e → HasCycle f e
    cycle_left e o = subst (λ rs. IsSome (row_at rs e.0)) (sym r.cycles) o

    cycle_was : (e : CycleId) → HasCycle f e → HasCycle s e
    cycle_was e o = subst (λ rs. IsSome (row_at rs e.0)) r.cycles o

    face_stays : (e : FaceId) → HasFace s e → HasFace f e
    face_stays e o = subst (λ ns. Contains ns e.0) (sym r.faces) o

    complete_left : IsComplete v f
    complete_left = record {
      cycles_ascend = subst (λ rs. NamesAscend (names rs)) (sym r.cycles) h.complete.cycles_ascend;
      faces_ascend = subst NamesAscend (sym r.faces) h.complete.faces_ascend;
      cycle_of_ascend = r.cycle_of_ascend;
      bare_ascend = r.bare_ascend;
      cycle_rows = rows_left;
      cycle_has = λ k o. subst (HasCycle f) (sym (left_reads k o)) (cycle_left (cycle_in s k) (h.complete.cycle_has k (up v w x y p q l m k o)));
      dart_has = λ e o.
          let d = h.complete.dart_has e (cycle_was e o) in
          elim (sorted v w x y p q l m d.0 d.1) [
            | inl z ↦ (d.0, z, left_reads d.0 z ∙ d.2)
            | inr z ↦ (a, A, left_reads a A ∙ sym cycle_a ∙ sym (elim z [ inl i ↦ ap (cycle_in s) i | inr i ↦ ap (cycle_in s) i ∙ cycle_y ]) ∙ d.2)
          ];
      face_has = λ e o. subst (HasFace f) (sym (face_left e)) (face_stays (face_in s e) (h.complete.face_has e (cycle_was e o)));
      bare = λ u o. elim (cases_vertex u q) [
        | inl e ↦ (λ _. subst (IsBare v) (sym e) bare, λ _. is_some_by _ _ (ap (λ z. row_at f.bare z.0) e ∙ r.bare_new))
        | inr n ↦
            let z = h.complete.bare u (vertex_above v w x y p q l m u o) in
            (λ k. bare_below v w x y p q l m u (z.0 (subst IsSome (r.bare_old u n) k)), λ k. subst IsSome (sym (r.bare_old u n)) (z.1 (bare_elsewhere u n k)))
      ];
      bare_vertex = λ u o. elim (cases_vertex u q) [
        | inl e ↦ subst (HasVertex v) (sym e) (has_end v w x y p q l m)
        | inr n ↦ vertex_below v w x y p q l m u (h.complete.bare_vertex u (subst IsSome (r.bare_old u n) o))
      ];
      bare_has = λ u o. elim (cases_vertex u q) [
        | inl e ↦ subst (HasFace f) (sym (ap (bare_face_in f) e ∙ ap bare_or r.bare_new ∙ sym named)) (face_stays (face_in s (cycle_in s x)) (h.complete.face_has (cycle_in s x) (h.complete.cycle_has x m.more.first)))
        | inr n ↦ subst (HasFace f) (sym (ap bare_or (r.bare_old u n))) (face_stays (bare_face_in s u) (h.complete.bare_has u (subst IsSome (r.bare_old u n) o)))
      ];
    }

    pub shrunk_rows : AreTabled v f
    shrunk_rows = record { complete = complete_left; cycled = cycled_left; told = (one_face_on_both_sides v w f s x y p q l m one h.cycled kept_left).1 h.told }

-- ---- the rows that the steps make, whichever of d and m leaves the bare end
grown_by : (w : View) (f : Faces) (d m : DartId) (u : VertexId) (c : CycleId) → d ≢ m → NamesAscend (names f.cycle_of) → NamesAscend (names f.bare) → AreGrownRows f (step_faces w f (grows d m u c)) d m u c
grown_by w f d m u c two up bare_ups = record {
  old = λ k i j. put_miss m.0 c _ k.0 (dart_number k m j) ∙ put_miss d.0 c f.cycle_of k.0 (dart_number k d i);
  first = put_miss m.0 c _ d.0 (dart_number d m two) ∙ put_hit d.0 c f.cycle_of;
  second = put_hit m.0 c _;
  bare_gone = del_hit u.0 f.bare bare_ups;
  bare_old = λ z n. del_miss u.0 f.bare z.0 bare_ups (vertex_number z u n);
  cycles = refl;
  faces = refl;
  cycle_of_ascend = ascend-put m.0 c _ (ascend-put d.0 c f.cycle_of up);
  bare_ascend = ascend-del u.0 f.bare bare_ups;
}

shrunk_by : (v : View) (s : Faces) (d m : DartId) (u : VertexId) (c : CycleId) (face : FaceId) → d ≢ m → NamesAscend (names s.cycle_of) → NamesAscend (names s.bare) → AreShrunkRows (step_faces v s (shrinks d m u c face)) s d m u face
shrunk_by v s d m u c face two up bare_ups = record {
  old = λ k i j. del_miss m.0 _ k.0 (ascend-del d.0 s.cycle_of up) (dart_number k m j) ∙ del_miss d.0 s.cycle_of k.0 up (dart_number k d i);
  first = del_miss m.0 _ d.0 (ascend-del d.0 s.cycle_of up) (dart_number d m two) ∙ del_hit d.0 s.cycle_of up;
  second = del_hit m.0 _ (ascend-del d.0 s.cycle_of up);
  bare_new = put_hit u.0 face s.bare;
  bare_old = λ z n. put_miss u.0 face s.bare z.0 (vertex_number z u n);
  cycles = refl;
  faces = refl;
  cycle_of_ascend = ascend-del m.0 _ (ascend-del d.0 s.cycle_of up);
  bare_ascend = ascend-put u.0 face s.bare bare_ups;
}

grown_turned : (f s : Faces) (x y : DartId) (q : VertexId) (c : CycleId) → AreGrownRows f s x y q c → AreGrownRows f s y x q c
grown_turned f s x y q c r = record { old = λ k i j. r.old k j i; first = r.second; second = r.first; bare_gone = r.bare_gone; bare_old = r.bare_old; cycles = r.cycles; faces = r.faces; cycle_of_ascend = r.cycle_of_ascend; bare_ascend = r.bare_ascend }

shrunk_turned : (f s : Faces) (x y : DartId) (q : VertexId) (a : FaceId) → AreShrunkRows f s x y q a → AreShrunkRows f s y x q a
shrunk_turned f s x y q a r = record { old = λ k i j. r.old k j i; first = r.second; second = r.first; bare_new = r.bare_new; bare_old = r.bare_old; cycles = r.cycles; faces = r.faces; cycle_of_ascend = r.cycle_of_ascend; bare_ascend = r.bare_ascend }

-- the far end of d is bare, or its near end
pub grows_at_end : (v w : View) (x y : DartId) (p q : VertexId) (l : Line) (m : IsEdgeApart v w x y p q l) (a : DartId) → HasDart v a → next_in w a ≡ x → IsBare v q → (f : Faces) (c : CycleId) → cycle_in f a ≡ c → AreTabled v f → AreTabled w (step_faces w f (grows x y q c))
grows_at_end v w x y p q l m a A na bare f c e h = grown_rows v w x y p q l m a A na bare f (step_faces w f (grows x y q c)) c e (grown_by w f x y q c m.more.two_names h.complete.cycle_of_ascend h.complete.bare_ascend) h

pub grows_at_start : (v w : View) (x y : DartId) (p q : VertexId) (l : Line) (m : IsEdgeApart v w x y p q l) (b : DartId) → HasDart v b → next_in w b ≡ y → IsBare v p → (f : Faces) (c : CycleId) → cycle_in f b ≡ c → AreTabled v f → AreTabled w (step_faces w f (grows x y p c))
grows_at_start v w x y p q l m b B nb bare f c e h =
    grown_rows v w y x q p l (turned_round v w x y p q l m) b B nb bare f (step_faces w f (grows x y p c)) c e (grown_turned f _ x y p c (grown_by w f x y p c m.more.two_names h.complete.cycle_of_ascend h.complete.bare_ascend)) h

pub shrinks_at_end : (v w : View) (x y : DartId) (p q : VertexId) (l : Line) (m : IsEdgeApart v w x y p q l) (a : DartId) → HasDart v a → next_in w a ≡ x → IsBare v q → (s : Faces) (c : CycleId) (face : FaceId) → cycle_in s x ≡ c → face ≡ face_in s c → AreTabled w s → AreTabled v (step_faces v s (shrinks x y q c face))
shrinks_at_end v w x y p q l m a A na bare s c face e g h = shrunk_rows v w x y p q l m a A na bare (step_faces v s (shrinks x y q c face)) s face (ap (face_in s) e ∙ sym g) (shrunk_by v s x y q c face m.more.two_names h.complete.cycle_of_ascend h.complete.bare_ascend) h

pub shrinks_at_start : (v w : View) (x y : DartId) (p q : VertexId) (l : Line) (m : IsEdgeApart v w x y p q l) (b : DartId) → HasDart v b → next_in w b ≡ y → IsBare v p → (s : Faces) (c : CycleId) (face : FaceId) → cycle_in s x ≡ c → face ≡ face_in s c → AreTabled w s → AreTabled v (step_faces v s (shrinks x y p c face))
shrinks_at_start v w x y p q l m b B nb bare s c face e g h =
    let r = turned_round v w x y p q l m in
    let k : cycle_in s y ≡ cycle_in s x = (h.cycled.orbits y x m.more.second m.more.first).1 (one v w y x q p l r b B nb bare) in
    shrunk_rows v w y x q p l r b B nb bare (step_faces v s (shrinks x y p c face)) s face (ap (face_in s) (k ∙ e) ∙ sym g) (shrunk_turned _ s x y p face (shrunk_by v s x y p c face m.more.two_names h.complete.cycle_of_ascend h.complete.bare_ascend)) h
