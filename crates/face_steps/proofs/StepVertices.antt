-- AddVertex, RemoveVertex and Clear: the tables that the step makes stand.
use Rattle.std.proofs.Common.{◌≡◌, ◌≢◌, ◌∷◌, [], Some, None, IsSome, refl, sym, ap, ◌∙◌, subst, inl, inr}
use Rattle.std.proofs.lemmas.Bool.{false≢true}
use Rattle.exact_plane.specs.Point.{Point}
use Rattle.slab_laws.specs.declared.names.CycleId.{CycleId}
use Rattle.slab_laws.specs.declared.names.DartId.{DartId}
use Rattle.slab_laws.specs.declared.names.FaceId.{FaceId}
use Rattle.slab_laws.specs.declared.names.VertexId.{VertexId}
use Rattle.slab_laws.specs.FacesSound.{IsComplete}
use Rattle.slab_laws.specs.Meets.{SameFace, here}
use Rattle.slab_laws.specs.Skeleton.{HasWeight}
use Rattle.slab_laws.specs.Sound.{skeleton_of}
use Rattle.slab_laws.specs.Tables.{row_at}
use Rattle.slab_laws.specs.View.{View, Faces, HasVertex, HasCycle, HasFace, HasBareFace, bare_or, bare_face_in}
use Rattle.slab_faces.proofs.Member.{member_in, in_member}
use Rattle.arr_notes.specs.ViewChanges.{no_rows}
use Rattle.arr_notes.specs.FaceSteps.{step_faces, comes_bare, goes_bare, cleared}
use Rattle.arr_notes.proofs.Names.{cases_vertex}
use Rattle.arr_notes.proofs.RowLaws.{ascend-put, ascend-del}
use Rattle.arr_notes.proofs.VertexReads.{nothing_is_there, put_hit, put_miss, del_hit, del_miss}
use Rattle.arr_notes.proofs.Reading.{vertex_number, none_there}
use Rattle.sound_views.proofs.ListedRows.{is_some_by}
use Rattle.rotation_order.specs.VertexRings.{IsBare}
use Rattle.face_changes.specs.FacesByPairs.{Item, outside, beside, round, HasItem, cell_at, name_at}
use Rattle.face_changes.proofs.FacesByPairs.{has_name}
use Rattle.face_steps.specs.Tabled.{AreTabled}
use Rattle.face_steps.specs.VertexSteps.{IsVertexApart, IsBareApart, IsFaceRound}
use Rattle.face_steps.proofs.VertexSteps.{vertex_steps}

-- ---- a vertex without darts
module _ (v w : View) (u : VertexId) (p : Point) (m : IsVertexApart v w u p) where
  bare_new : IsBare w u
  bare_new k o = m.new (subst (HasVertex v) (sym (m.darts k).source ∙ o.1) (m.sound.linked.source k ((m.darts k).had o.0)))

  bare_down : (z : VertexId) → IsBare w z → IsBare v z
  bare_down z none k o = none k ((m.darts k).has o.0, (m.darts k).source ∙ o.1)

  bare_up : (z : VertexId) → IsBare v z → IsBare w z
  bare_up z none k o = none k ((m.darts k).had o.0, sym (m.darts k).source ∙ o.1)

  not_new : (z : VertexId) → HasVertex v z → z ≢ u
  not_new z o e = m.new (subst (HasVertex v) e o)

  module _ (f : Faces) (face : FaceId) (there : IsFaceRound v f face p) (h : AreTabled v f) where
    abbrev s : Faces
    s = step_faces w f (comes_bare u face)

    row_new : row_at s.bare u.0 ≡ Some face
    row_new = put_hit u.0 face f.bare

    row_old : (z : VertexId) → z ≢ u → row_at s.bare z.0 ≡ row_at f.bare z.0
    row_old z n = put_miss u.0 face f.bare z.0 (vertex_number z u n)

    has_face : HasFace f face
    has_face = subst (HasFace f) there.2 (has_name v f h.complete h.told.there there.0 there.1)

    tabled : IsBareApart v f s u face
    tabled = record { faces = refl; darts = λ k o. refl; kinds = λ k o. refl; beside = λ k o. refl; round = λ z o. ap bare_or (row_old z (not_new z o)); new = ap bare_or row_new }

    complete : IsComplete w s
    complete = record {
      cycles_ascend = h.complete.cycles_ascend;
      faces_ascend = h.complete.faces_ascend;
      cycle_of_ascend = h.complete.cycle_of_ascend;
      bare_ascend = ascend-put u.0 face f.bare h.complete.bare_ascend;
      cycle_rows = λ k. (λ o. (h.complete.cycle_rows k).0 ((m.darts k).had o), λ o. (m.darts k).has ((h.complete.cycle_rows k).1 o));
      cycle_has = λ k o. h.complete.cycle_has k ((m.darts k).had o);
      dart_has = λ c o. let d = h.complete.dart_has c o in (d.0, (m.darts d.0).has d.1, d.2);
      face_has = h.complete.face_has;
      bare = λ z o. elim (cases_vertex z u) [
        | inl e ↦ (λ _. subst (IsBare w) (sym e) bare_new, λ _. is_some_by _ _ (ap (λ i. row_at s.bare i.0) e ∙ row_new))
        | inr n ↦
            let r = h.complete.bare z (m.down z o n) in
            (λ k. bare_up z (r.0 (subst IsSome (row_old z n) k)), λ k. subst IsSome (sym (row_old z n)) (r.1 (bare_down z k)))
      ];
      bare_vertex = λ z o. elim (cases_vertex z u) [
        | inl e ↦ subst (HasVertex w) (sym e) m.has
        | inr n ↦ (m.up z (h.complete.bare_vertex z (subst IsSome (row_old z n) o))).0
      ];
      bare_has = λ z o. elim (cases_vertex z u) [
        | inl e ↦ subst (HasFace f) (sym (ap (bare_face_in s) e ∙ ap bare_or row_new)) has_face
        | inr n ↦ subst (HasFace f) (sym (ap bare_or (row_old z n))) (h.complete.bare_has z (subst IsSome (row_old z n) o))
      ];
    }

    pub vertex_leaves : (a : FaceId) (q : Point) → HasWeight q → IsFaceRound v f a q → IsFaceRound w (step_faces w f (comes_bare u face)) a q
    vertex_leaves a q positive r = vertex_steps.stays v w f s u p face m tabled a q positive r

    pub vertex_made : AreTabled w (step_faces w f (comes_bare u face))
    vertex_made = record { complete = complete; cycled = (vertex_steps.cycled v w f s u p face m tabled).0 h.cycled; told = vertex_steps.comes v w f s u p face m tabled there h.told }

  module _ (s : Faces) (h : AreTabled w s) where
    abbrev f : Faces
    f = step_faces v s (goes_bare u)

    row_gone : row_at f.bare u.0 ≡ None
    row_gone = del_hit u.0 s.bare h.complete.bare_ascend

    row_left : (z : VertexId) → z ≢ u → row_at f.bare z.0 ≡ row_at s.bare z.0
    row_left z n = del_miss u.0 s.bare z.0 h.complete.bare_ascend (vertex_number z u n)

    tabled_left : IsBareApart v f s u (bare_face_in s u)
    tabled_left = record { faces = refl; darts = λ k o. refl; kinds = λ k o. refl; beside = λ k o. refl; round = λ z o. sym (ap bare_or (row_left z (not_new z o))); new = refl }

    not_u : (z : VertexId) → HasBareFace f z → z ≢ u
    not_u z o e = none_there _ (ap (λ i. row_at f.bare i.0) e ∙ row_gone) o

    complete_left : IsComplete v f
    complete_left = record {
      cycles_ascend = h.complete.cycles_ascend;
      faces_ascend = h.complete.faces_ascend;
      cycle_of_ascend = h.complete.cycle_of_ascend;
      bare_ascend = ascend-del u.0 s.bare h.complete.bare_ascend;
      cycle_rows = λ k. (λ o. (h.complete.cycle_rows k).0 ((m.darts k).has o), λ o. (m.darts k).had ((h.complete.cycle_rows k).1 o));
      cycle_has = λ k o. h.complete.cycle_has k ((m.darts k).has o);
      dart_has = λ c o. let d = h.complete.dart_has c o in (d.0, (m.darts d.0).had d.1, d.2);
      face_has = h.complete.face_has;
      bare = λ z o.
          let n = not_new z o in
          let r = h.complete.bare z (m.up z o).0 in
          (λ k. bare_down z (r.0 (subst IsSome (row_left z n) k)), λ k. subst IsSome (sym (row_left z n)) (r.1 (bare_up z k)));
      bare_vertex = λ z o. let n = not_u z o in m.down z (h.complete.bare_vertex z (subst IsSome (row_left z n) o)) n;
      bare_has = λ z o. let n = not_u z o in subst (HasFace s) (sym (ap bare_or (row_left z n))) (h.complete.bare_has z (subst IsSome (row_left z n) o));
    }

    pub vertex_gone : AreTabled v (step_faces v s (goes_bare u))
    vertex_gone = record { complete = complete_left; cycled = (vertex_steps.cycled v w f s u p (bare_face_in s u) m tabled_left).1 h.cycled; told = vertex_steps.goes v w f s u p (bare_face_in s u) m tabled_left h.told }

-- ---- nothing but the unbounded face
no_cycle : (f : Faces) (a : FaceId) (c : CycleId) → HasCycle (step_faces no_rows f (cleared a)) c → ⊥
unfolding row_at
no_cycle f a c o = false≢true o

no_bare : (f : Faces) (a : FaceId) (z : VertexId) → HasBareFace (step_faces no_rows f (cleared a)) z → ⊥
unfolding row_at
no_bare f a z o = false≢true o

no_row : (f : Faces) (a : FaceId) (k : DartId) → IsSome (row_at (step_faces no_rows f (cleared a)).cycle_of k.0) → ⊥
unfolding row_at
no_row f a k o = false≢true o

only_outside : (i : Item) → HasItem no_rows i → i ≡ outside
only_outside outside h = refl
only_outside (beside k) h = absurd (nothing_is_there.1 k h)
only_outside (round z) h = absurd (nothing_is_there.0 z h.0)

pub all_cleared : (f : Faces) (a : FaceId) → AreTabled no_rows (step_faces no_rows f (cleared a))
all_cleared f a = record {
  complete = record {
    cycles_ascend = tt;
    faces_ascend = (tt, tt);
    cycle_of_ascend = tt;
    bare_ascend = tt;
    cycle_rows = λ k. (λ o. absurd (nothing_is_there.1 k o), λ o. absurd (no_row f a k o));
    cycle_has = λ k o. absurd (nothing_is_there.1 k o);
    dart_has = λ c o. absurd (no_cycle f a c o);
    face_has = λ c o. absurd (no_cycle f a c o);
    bare = λ z o. absurd (nothing_is_there.0 z o);
    bare_vertex = λ z o. absurd (no_bare f a z o);
    bare_has = λ z o. absurd (no_bare f a z o);
  };
  cycled = record { orbits = λ d e o o'. absurd (nothing_is_there.1 d o); kind = λ d o. absurd (nothing_is_there.1 d o) };
  told = record {
    there = member_in (a.0 ∷ []) a.0 (inl refl);
    same = λ i j hi hj.
        let e = only_outside i hi in
        let e' = only_outside j hj in
        let q = e ∙ sym e' in
        (λ _. subst (λ z. SameFace (skeleton_of no_rows) (cell_at no_rows i) (cell_at no_rows z)) q (here _), λ _. ap (name_at (step_faces no_rows f (cleared a))) q);
    all = λ c h. (outside, tt, elim (in_member (a.0 ∷ []) c.0 h) [ inl e ↦ (λ i. record { 0 = e i }) | inr r ↦ absurd r ]);
  };
}
