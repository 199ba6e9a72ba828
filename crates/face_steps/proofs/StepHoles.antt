-- NewHole and Vanishes: the tables that the step makes stand.
use Rattle.std.proofs.Common.{◌≡◌, ◌≢◌, ◌↔◌, Some, None, IsSome, refl, sym, ap, ◌∙◌, subst, ◌⊎◌, inl, inr}
use Rattle.std.proofs.lemmas.Bool.{true≢false}
use Rattle.exact_plane.specs.Line.{Line}
use Rattle.slab_laws.specs.declared.names.CycleId.{CycleId}
use Rattle.slab_laws.specs.declared.names.CycleKind.{CycleKind}
use Rattle.slab_laws.specs.declared.names.CycleKind.TheVariants.{Inner, Outer}
use Rattle.slab_laws.specs.declared.names.DartId.{DartId}
use Rattle.slab_laws.specs.declared.names.FaceId.{FaceId}
use Rattle.slab_laws.specs.declared.names.VertexId.{VertexId}
use Rattle.slab_laws.specs.FacesSound.{lead_in, IsCycled, IsComplete}
use Rattle.slab_laws.specs.Meets.{SameFace}
use Rattle.slab_laws.specs.Slabs.{left_cell}
use Rattle.slab_laws.specs.Sound.{skeleton_of, dart_in}
use Rattle.slab_laws.specs.Tables.{row_at}
use Rattle.slab_laws.specs.View.{View, Faces, HasVertex, HasDart, HasCycle, HasFace, HasBareFace, point_in, source_in, cycle_or, kind_or, face_or, bare_or, cycle_in, kind_in, face_in, bare_face_in}
use Rattle.slab_faces.proofs.Turns.{face_trans, face_sym}
use Rattle.arr_notes.specs.FaceSteps.{step_faces, new_hole, vanishes}
use Rattle.arr_notes.proofs.Names.{cases_dart, cases_vertex}
use Rattle.arr_notes.proofs.RowLaws.{ascend-put, ascend-del}
use Rattle.arr_notes.proofs.Reading.{dart_number, vertex_number, none_there}
use Rattle.arr_notes.proofs.VertexReads.{put_hit, put_miss, del_hit, del_miss}
use Rattle.sound_views.proofs.ListedRows.{is_some_by}
use Rattle.rotation_order.specs.VertexRings.{IsBare}
use Rattle.sound_changes.specs.NextLaws.{IsBareEnd}
use Rattle.sound_changes.proofs.RingsKept.{source_old}
use Rattle.face_changes.specs.FacesByPairs.{round, HasItem}
use Rattle.face_changes.specs.OneMoreEdge.{MakesHole}
use Rattle.face_changes.proofs.OneMoreEdge.{one_kind_each, cycles_with_one_more_edge, sides_of_one_more_edge}
use Rattle.face_steps.specs.EdgePairs.{IsEdgeApart}
use Rattle.face_steps.specs.OneFace.{AreFacesKept, IsHoleApart}
use Rattle.face_steps.specs.Tabled.{AreTabled}
use Rattle.face_steps.proofs.Alike.{kind_at}
use Rattle.face_steps.proofs.CyclesApart.{cycle_cases, cycles_apart}
use Rattle.face_steps.proofs.EdgePairs.{turned_round, up, sorted, bare_below, vertex_above, vertex_below, has_start, has_end, is_more, is_dart, twins, lead_old, lead_second, bare_start, vertex_lies, bare_end}
use Rattle.face_steps.proofs.FaceRows.{cycle_number}
use Rattle.face_steps.proofs.OneFace.{one_face_on_both_sides}

pub kinds_are_two : (k : CycleKind) → ¬ (k ≡ Outer) → k ≡ Inner
kinds_are_two Inner n = refl
kinds_are_two Outer n = absurd (n refl)

module _ (v w : View) (x y : DartId) (p q : VertexId) (l : Line) (m : IsEdgeApart v w x y p q l) where
  back : IsEdgeApart v w y x q p l
  back = turned_round v w x y p q l m

  pub not_x : (k : DartId) → HasDart v k → k ≢ x
  not_x k o e = m.more.first_new (subst (HasDart v) e o)

  pub not_y : (k : DartId) → HasDart v k → k ≢ y
  not_y k o e = m.more.second_new (subst (HasDart v) e o)

  -- ---- the ends
  pub start_left : IsBare w p → ⊥
  start_left none = none x (m.more.first, m.more.source_first)

  pub end_left : IsBare w q → ⊥
  end_left none = none y (m.more.second, m.more.source_second)

  pub bare_elsewhere : (u : VertexId) → u ≢ p → u ≢ q → IsBare v u → IsBare w u
  bare_elsewhere u n n' none k o = elim (sorted v w x y p q l m k o.0) [
    | inl z ↦ none k (z, sym (source_old v w x y p q l m.more k z) ∙ o.1)
    | inr r ↦ elim r [
      | inl z ↦ n (sym o.1 ∙ ap (source_in w) z ∙ m.more.source_first)
      | inr z ↦ n' (sym o.1 ∙ ap (source_in w) z ∙ m.more.source_second)
    ]
  ]

  -- two bare ends are in one face
  pub ends_together : lead_in w x ≡ lead_in w y → IsBare v p → IsBare v q → SameFace (skeleton_of v) (left_cell (skeleton_of v) (point_in v p)) (left_cell (skeleton_of v) (point_in v q))
  ends_together one bare bare' =
      let a = vertex_lies v w x y p q l m p (has_start v w x y p q l m) in
      let b = vertex_lies v w x y p q l m q (has_end v w x y p q l m) in
      let s = bare_start v w x y p q l m bare in
      let e = bare_start v w y x q p l back bare' in
      let k = one_kind_each.face (skeleton_of w) (dart_in w x) (dart_in w y) m.sound_more.plane one in
      (sides_of_one_more_edge.one (skeleton_of v) (skeleton_of w) (dart_in w x) _ _ _ _ (is_more v w x y p q l m) (one ∙ lead_second v w x y p q l m) a b).0
      (face_trans _ _ _ _ (face_sym _ _ _ s) (face_trans _ _ _ _ k e))

  module _ (bare : IsBare v p) (bare' : IsBare v q) where
    hole : MakesHole (skeleton_of v) (skeleton_of w) (dart_in w x)
    hole = cycles_with_one_more_edge.new_hole (skeleton_of v) (skeleton_of w) (dart_in w x) (is_more v w x y p q l m) (bare_end v w x y p q l m bare) (subst (IsBareEnd (skeleton_of v)) (twins v w x y p q l m) (bare_end v w y x q p l back bare'))

    -- ---- the edge comes
    module _ (f : Faces) (c : CycleId) (a : FaceId) (new : ¬ HasCycle f c) (face : a ≡ bare_face_in f p) (h : AreTabled v f) where
      abbrev s : Faces
      s = step_faces w f (new_hole x y p q c a)

      row_first : row_at s.cycle_of x.0 ≡ Some c
      row_first = put_miss y.0 c _ x.0 (dart_number x y m.more.two_names) ∙ put_hit x.0 c f.cycle_of

      row_second : row_at s.cycle_of y.0 ≡ Some c
      row_second = put_hit y.0 c _

      row_old : (k : DartId) → k ≢ x → k ≢ y → row_at s.cycle_of k.0 ≡ row_at f.cycle_of k.0
      row_old k i j = put_miss y.0 c _ k.0 (dart_number k y j) ∙ put_miss x.0 c f.cycle_of k.0 (dart_number k x i)

      reads : (k : DartId) → HasDart v k → cycle_in s k ≡ cycle_in f k
      reads k o = ap cycle_or (row_old k (not_x k o) (not_y k o))

      record_new : row_at s.cycles c.0 ≡ Some (record { kind = Inner; face = a })
      record_new = put_hit c.0 _ f.cycles

      record_old : (e : CycleId) → e ≢ c → row_at s.cycles e.0 ≡ row_at f.cycles e.0
      record_old e n = put_miss c.0 _ f.cycles e.0 (cycle_number e c n)

      not_new : (e : CycleId) → HasCycle f e → e ≢ c
      not_new e o z = new (subst (HasCycle f) z o)

      bare_gone : (u : VertexId) → (u ≡ p) ⊎ (u ≡ q) → row_at s.bare u.0 ≡ None
      bare_gone u (inr e) = ap (λ z. row_at s.bare z.0) e ∙ del_hit q.0 _ (ascend-del p.0 f.bare h.complete.bare_ascend)
      bare_gone u (inl e) = ap (λ z. row_at s.bare z.0) e ∙ del_miss q.0 _ p.0 (ascend-del p.0 f.bare h.complete.bare_ascend) (vertex_number p q m.more.two_ends) ∙ del_hit p.0 f.bare h.complete.bare_ascend

      bare_old : (u : VertexId) → u ≢ p → u ≢ q → row_at s.bare u.0 ≡ row_at f.bare u.0
      bare_old u n n' = del_miss q.0 _ u.0 (ascend-del p.0 f.bare h.complete.bare_ascend) (vertex_number u q n') ∙ del_miss p.0 f.bare u.0 h.complete.bare_ascend (vertex_number u p n)

      is_hole : IsHoleApart v f s x y c
      is_hole = record {
        kept = record { darts = reads; kinds = λ k o. ap kind_or (record_old (cycle_in f k) (not_new (cycle_in f k) (h.complete.cycle_has k o))) };
        fresh = λ k o. not_new (cycle_in f k) (h.complete.cycle_has k o);
        first = ap cycle_or row_first;
        second = ap cycle_or row_second;
        kind = ap kind_or record_new;
      }

      cycled : IsCycled w s
      cycled = (cycles_apart.hole v w f s x y p q l c m bare bare' is_hole).0 h.cycled

      one : lead_in w x ≡ lead_in w y
      one = (cycled.orbits x y m.more.first m.more.second).0 (is_hole.first ∙ sym is_hole.second)

      item : (u : VertexId) → HasVertex v u → IsBare v u → HasItem v (round u)
      item u o none = (o, none)

      face_end : a ≡ bare_face_in f q
      face_end = face ∙ (h.told.same (round p) (round q) (item p (has_start v w x y p q l m) bare) (item q (has_end v w x y p q l m) bare')).1 (ends_together one bare bare')

      face_of_new : face_in s c ≡ a
      face_of_new = ap face_or record_new

      face_old : (e : CycleId) → HasCycle f e → face_in s e ≡ face_in f e
      face_old e o = ap face_or (record_old e (not_new e o))

      are_kept : AreFacesKept v w f s x y p q
      are_kept = record {
        faces = refl;
        beside = λ k o. ap (face_in s) (reads k o) ∙ face_old (cycle_in f k) (h.complete.cycle_has k o);
        round = λ u o none. ap bare_or (bare_old u (λ e. start_left (subst (IsBare w) e none)) (λ e. end_left (subst (IsBare w) e none)));
        start = λ none. ap (face_in s) is_hole.first ∙ face_of_new ∙ face;
        end = λ none. ap (face_in s) is_hole.second ∙ face_of_new ∙ face_end;
      }

      row_of_start : HasBareFace f p
      row_of_start = (h.complete.bare p (has_start v w x y p q l m)).1 bare

      rows : (k : DartId) → HasDart w k ↔ IsSome (row_at s.cycle_of k.0)
      rows k = (
        λ o. elim (sorted v w x y p q l m k o) [
          | inl z ↦ subst IsSome (sym (row_old k (not_x k z) (not_y k z))) ((h.complete.cycle_rows k).0 z)
          | inr z ↦ elim z [ inl e ↦ is_some_by _ _ (ap (λ j. row_at s.cycle_of j.0) e ∙ row_first) | inr e ↦ is_some_by _ _ (ap (λ j. row_at s.cycle_of j.0) e ∙ row_second) ]
        ],
        λ o. elim (cases_dart k x) [
          | inl e ↦ subst (HasDart w) (sym e) m.more.first
          | inr n ↦ elim (cases_dart k y) [
            | inl e ↦ subst (HasDart w) (sym e) m.more.second
            | inr n' ↦ up v w x y p q l m k ((h.complete.cycle_rows k).1 (subst IsSome (row_old k n n') o))
          ]
        ],
      )

      has_new : HasCycle s c
      has_new = is_some_by _ _ record_new

      complete : IsComplete w s
      complete = record {
        cycles_ascend = ascend-put c.0 _ f.cycles h.complete.cycles_ascend;
        faces_ascend = h.complete.faces_ascend;
        cycle_of_ascend = ascend-put y.0 c _ (ascend-put x.0 c f.cycle_of h.complete.cycle_of_ascend);
        bare_ascend = ascend-del q.0 _ (ascend-del p.0 f.bare h.complete.bare_ascend);
        cycle_rows = rows;
        cycle_has = λ k o. elim (sorted v w x y p q l m k o) [
          | inl z ↦ subst (HasCycle s) (sym (reads k z)) (subst IsSome (sym (record_old (cycle_in f k) (not_new (cycle_in f k) (h.complete.cycle_has k z)))) (h.complete.cycle_has k z))
          | inr z ↦ subst (HasCycle s) (sym (elim z [ inl e ↦ ap (cycle_in s) e ∙ is_hole.first | inr e ↦ ap (cycle_in s) e ∙ is_hole.second ])) has_new
        ];
        dart_has = λ e o. elim (cycle_cases e c) [
          | inl z ↦ (x, m.more.first, is_hole.first ∙ sym z)
          | inr n ↦ let d = h.complete.dart_has e (subst IsSome (record_old e n) o) in (d.0, up v w x y p q l m d.0 d.1, reads d.0 d.1 ∙ d.2)
        ];
        face_has = λ e o. elim (cycle_cases e c) [
          | inl z ↦ subst (HasFace f) (sym (ap (face_in s) z ∙ face_of_new ∙ face)) (h.complete.bare_has p row_of_start)
          | inr n ↦ subst (HasFace f) (sym (ap face_or (record_old e n))) (h.complete.face_has e (subst IsSome (record_old e n) o))
        ];
        bare = λ u o. elim (cases_vertex u p) [
          | inl e ↦ (λ k. absurd (none_there _ (bare_gone u (inl e)) k), λ k. absurd (start_left (subst (IsBare w) e k)))
          | inr n ↦ elim (cases_vertex u q) [
            | inl e ↦ (λ k. absurd (none_there _ (bare_gone u (inr e)) k), λ k. absurd (end_left (subst (IsBare w) e k)))
            | inr n' ↦
                let z = h.complete.bare u (vertex_below v w x y p q l m u o) in
                (λ k. bare_elsewhere u n n' (z.0 (subst IsSome (bare_old u n n') k)), λ k. subst IsSome (sym (bare_old u n n')) (z.1 (bare_below v w x y p q l m u k)))
          ]
        ];
        bare_vertex = λ u o. elsewhere u o (λ n n' k. vertex_above v w x y p q l m u (h.complete.bare_vertex u k));
        bare_has = λ u o. elsewhere u o (λ n n' k. subst (HasFace f) (sym (ap bare_or (bare_old u n n'))) (h.complete.bare_has u k));
      }
        where
          elsewhere : {P : Type 0} → (u : VertexId) → HasBareFace s u → (u ≢ p → u ≢ q → HasBareFace f u → P) → P
          elsewhere u o go = elim (cases_vertex u p) [
            | inl e ↦ absurd (none_there _ (bare_gone u (inl e)) o)
            | inr n ↦ elim (cases_vertex u q) [ inl e ↦ absurd (none_there _ (bare_gone u (inr e)) o) | inr n' ↦ go n n' (subst IsSome (bare_old u n n') o) ]
          ]

      pub hole_made : AreTabled w (step_faces w f (new_hole x y p q c a))
      hole_made = record { complete = complete; cycled = cycled; told = (one_face_on_both_sides v w f s x y p q l m one cycled are_kept).0 h.told }

    -- ---- the edge goes
    module _ (s : Faces) (c : CycleId) (a : FaceId) (cycle : cycle_in s x ≡ c) (face : a ≡ face_in s c) (h : AreTabled w s) where
      abbrev f : Faces
      f = step_faces v s (vanishes x y p q c a)

      lead_one : lead_in w x ≡ lead_in w y
      lead_one = sym (lead_second v w x y p q l m ∙ hole.one)

      second : cycle_in s y ≡ c
      second = sym ((h.cycled.orbits x y m.more.first m.more.second).1 lead_one) ∙ cycle

      gone_first : row_at f.cycle_of x.0 ≡ None
      gone_first = del_miss y.0 _ x.0 (ascend-del x.0 s.cycle_of h.complete.cycle_of_ascend) (dart_number x y m.more.two_names) ∙ del_hit x.0 s.cycle_of h.complete.cycle_of_ascend

      gone_second : row_at f.cycle_of y.0 ≡ None
      gone_second = del_hit y.0 _ (ascend-del x.0 s.cycle_of h.complete.cycle_of_ascend)

      left_old : (k : DartId) → k ≢ x → k ≢ y → row_at f.cycle_of k.0 ≡ row_at s.cycle_of k.0
      left_old k i j = del_miss y.0 _ k.0 (ascend-del x.0 s.cycle_of h.complete.cycle_of_ascend) (dart_number k y j) ∙ del_miss x.0 s.cycle_of k.0 h.complete.cycle_of_ascend (dart_number k x i)

      left_reads : (k : DartId) → HasDart v k → cycle_in f k ≡ cycle_in s k
      left_reads k o = ap cycle_or (left_old k (not_x k o) (not_y k o))

      not_c : (k : DartId) → HasDart v k → cycle_in s k ≢ c
      not_c k o e =
          let z = (h.cycled.orbits k x (up v w x y p q l m k o) m.more.first).0 (e ∙ sym cycle) in
          hole.new (dart_in v k) (is_dart v w x y p q l m k o) (sym (lead_old v w x y p q l m k o) ∙ z)

      record_gone : row_at f.cycles c.0 ≡ None
      record_gone = del_hit c.0 s.cycles h.complete.cycles_ascend

      record_left : (e : CycleId) → e ≢ c → row_at f.cycles e.0 ≡ row_at s.cycles e.0
      record_left e n = del_miss c.0 s.cycles e.0 h.complete.cycles_ascend (cycle_number e c n)

      bare_first : row_at f.bare p.0 ≡ Some a
      bare_first = put_miss q.0 a _ p.0 (vertex_number p q m.more.two_ends) ∙ put_hit p.0 a s.bare

      bare_second : row_at f.bare q.0 ≡ Some a
      bare_second = put_hit q.0 a _

      bare_left : (u : VertexId) → u ≢ p → u ≢ q → row_at f.bare u.0 ≡ row_at s.bare u.0
      bare_left u n n' = put_miss q.0 a _ u.0 (vertex_number u q n') ∙ put_miss p.0 a s.bare u.0 (vertex_number u p n)

      inner : kind_in s c ≡ Inner
      inner = kinds_are_two (kind_in s c) (λ k. true≢false (sym ((kind_at w s x m.sound_more h.cycled m.more.first).0 (ap (kind_in s) cycle ∙ k)) ∙ hole.inner))

      was_hole : IsHoleApart v f s x y c
      was_hole = record {
        kept = record { darts = λ k o. sym (left_reads k o); kinds = λ k o. sym (ap kind_or (record_left (cycle_in f k) (λ e. not_c k o (sym (left_reads k o) ∙ e)))) };
        fresh = λ k o e. not_c k o (sym (left_reads k o) ∙ e);
        first = cycle;
        second = second;
        kind = inner;
      }

      cycled_left : IsCycled v f
      cycled_left = (cycles_apart.hole v w f s x y p q l c m bare bare' was_hole).1 h.cycled

      kept_left : AreFacesKept v w f s x y p q
      kept_left = record {
        faces = refl;
        beside = λ k o. sym (ap (face_in f) (left_reads k o) ∙ ap face_or (record_left (cycle_in s k) (not_c k o)));
        round = λ u o none. sym (ap bare_or (bare_left u (λ e. start_left (subst (IsBare w) e none)) (λ e. end_left (subst (IsBare w) e none))));
        start = λ none. ap (face_in s) cycle ∙ sym face ∙ sym (ap bare_or bare_first);
        end = λ none. ap (face_in s) second ∙ sym face ∙ sym (ap bare_or bare_second);
      }

      had : (e : CycleId) → HasCycle f e → (e ≢ c) × HasCycle s e
      had e o = let n : e ≢ c = λ z. none_there _ (ap (λ i. row_at f.cycles i.0) z ∙ record_gone) o in (n, subst IsSome (record_left e n) o)

      has_face : HasFace s a
      has_face = subst (HasFace s) (sym face) (h.complete.face_has c (subst (HasCycle s) cycle (h.complete.cycle_has x m.more.first)))

      rows_left : (k : DartId) → HasDart v k ↔ IsSome (row_at f.cycle_of k.0)
      rows_left k = (
        λ o. subst IsSome (sym (left_old k (not_x k o) (not_y k o))) ((h.complete.cycle_rows k).0 (up v w x y p q l m k o)),
        λ o. elim (cases_dart k x) [
          | inl e ↦ absurd (none_there _ (ap (λ j. row_at f.cycle_of j.0) e ∙ gone_first) o)
          | inr n ↦ elim (cases_dart k y) [
            | inl e ↦ absurd (none_there _ (ap (λ j. row_at f.cycle_of j.0) e ∙ gone_second) o)
            | inr n' ↦ elim (sorted v w x y p q l m k ((h.complete.cycle_rows k).1 (subst IsSome (left_old k n n') o))) [ inl z ↦ z | inr z ↦ elim z [ inl e ↦ absurd (n e) | inr e ↦ absurd (n' e) ] ]
          ]
        ],
      )

      complete_left : IsComplete v f
      complete_left = record {
        cycles_ascend = ascend-del c.0 s.cycles h.complete.cycles_ascend;
        faces_ascend = h.complete.faces_ascend;
        cycle_of_ascend = ascend-del y.0 _ (ascend-del x.0 s.cycle_of h.complete.cycle_of_ascend);
        bare_ascend = ascend-put q.0 a _ (ascend-put p.0 a s.bare h.complete.bare_ascend);
        cycle_rows = rows_left;
        cycle_has = λ k o. subst (HasCycle f) (sym (left_reads k o)) (subst IsSome (sym (record_left (cycle_in s k) (not_c k o))) (h.complete.cycle_has k (up v w x y p q l m k o)));
        dart_has = λ e o.
            let k = had e o in
            let d = h.complete.dart_has e k.1 in
            elim (sorted v w x y p q l m d.0 d.1) [
              | inl z ↦ (d.0, z, left_reads d.0 z ∙ d.2)
              | inr z ↦ absurd (k.0 (sym d.2 ∙ elim z [ inl i ↦ ap (cycle_in s) i ∙ cycle | inr i ↦ ap (cycle_in s) i ∙ second ]))
            ];
        face_has = λ e o. let k = had e o in subst (HasFace s) (sym (ap face_or (record_left e k.0))) (h.complete.face_has e k.1);
        bare = λ u o. elim (cases_vertex u p) [
          | inl e ↦ (λ _. subst (IsBare v) (sym e) bare, λ _. is_some_by _ _ (ap (λ z. row_at f.bare z.0) e ∙ bare_first))
          | inr n ↦ elim (cases_vertex u q) [
            | inl e ↦ (λ _. subst (IsBare v) (sym e) bare', λ _. is_some_by _ _ (ap (λ z. row_at f.bare z.0) e ∙ bare_second))
            | inr n' ↦
                let z = h.complete.bare u (vertex_above v w x y p q l m u o) in
                (λ k. bare_below v w x y p q l m u (z.0 (subst IsSome (bare_left u n n') k)), λ k. subst IsSome (sym (bare_left u n n')) (z.1 (bare_elsewhere u n n' k)))
          ]
        ];
        bare_vertex = λ u o. elim (cases_vertex u p) [
          | inl e ↦ subst (HasVertex v) (sym e) (has_start v w x y p q l m)
          | inr n ↦ elim (cases_vertex u q) [
            | inl e ↦ subst (HasVertex v) (sym e) (has_end v w x y p q l m)
            | inr n' ↦ vertex_below v w x y p q l m u (h.complete.bare_vertex u (subst IsSome (bare_left u n n') o))
          ]
        ];
        bare_has = λ u o. elim (cases_vertex u p) [
          | inl e ↦ subst (HasFace s) (sym (ap (bare_face_in f) e ∙ ap bare_or bare_first)) has_face
          | inr n ↦ elim (cases_vertex u q) [
            | inl e ↦ subst (HasFace s) (sym (ap (bare_face_in f) e ∙ ap bare_or bare_second)) has_face
            | inr n' ↦ subst (HasFace s) (sym (ap bare_or (bare_left u n n'))) (h.complete.bare_has u (subst IsSome (bare_left u n n') o))
          ]
        ];
      }

      pub hole_gone : AreTabled v (step_faces v s (vanishes x y p q c a))
      hole_gone = record { complete = complete_left; cycled = cycled_left; told = (one_face_on_both_sides v w f s x y p q l m lead_one h.cycled kept_left).1 h.told }
