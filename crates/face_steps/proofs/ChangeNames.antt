-- Names of cycles and faces after a change: the old ones but those told to go, and those told to come.
use Rattle.std.proofs.Common.{◌≡◌, ◌≢◌, ◌↔◌, ◌⊎◌, ◌==◌, ◌<◌, ℕ, cond, List, [], ◌∷◌, Option, Some, None, IsSome, refl, sym, ap, ◌∙◌, subst, inl, inr}
use Rattle.std.specs.List.{Contains}
use Rattle.std.proofs.lemmas.Bool.{cases_eq, false≢true}
use Rattle.integers.proofs.Tests.{other_number, same_number}
use Rattle.slab_laws.specs.declared.names.CycleId.{CycleId}
use Rattle.slab_laws.specs.declared.names.DartId.{DartId}
use Rattle.slab_laws.specs.declared.names.FaceId.{FaceId}
use Rattle.slab_laws.specs.declared.names.VertexId.{VertexId}
use Rattle.slab_laws.specs.FaceLists.{MovedView}
use Rattle.slab_laws.specs.Sound.{IsGraphSound}
use Rattle.slab_laws.specs.Tables.{row_at, names, NamesAscend}
use Rattle.slab_laws.specs.View.{View, Faces, CycleRecord, HasDart, HasCycle, HasFace, source_in, target_in, twin_in, cycle_in}
use Rattle.slab_faces.proofs.Member.{member_in, in_member}
use Rattle.arr_notes.specs.FacesTold.{faces_after}
use Rattle.arr_notes.specs.FaceWriters.{del_name}
use Rattle.arr_notes.specs.NamedRows.{put, del, each}
use Rattle.arr_notes.specs.Step.{step, remove_edge}
use Rattle.arr_notes.specs.declared.change.Change.{Change}
use Rattle.arr_notes.specs.declared.change.Change.TheVariants.{AddVertex, RemoveVertex, SplitEdge, MergeEdge, AddEdge, RemoveEdge, AddCurve, RemoveCurve, SetPin, ClearPin, Clear}
use Rattle.arr_notes.specs.declared.faces.Linked.{Linked}
use Rattle.arr_notes.specs.declared.faces.Linked.TheVariants.{NewHole, Grows, Joins, Splits}
use Rattle.arr_notes.specs.declared.faces.Unlinked.TheVariants.{Vanishes, Shrinks, Breaks, Unites}
use Rattle.arr_notes.proofs.RowLaws.{row_at-put, row_at-del, row_at-each, ascend-each}
use Rattle.sound_changes.specs.StepOfChange.{FitsChange}
use Rattle.face_changes.specs.FacesByPairs.{first_or}
use Rattle.face_changes.proofs.FaceNames.{face_cases as two_faces}
use Rattle.face_changes.proofs.FacesByPairs.{by_number}
use Rattle.face_steps.specs.ChangeLaws.{FitsNoted}
use Rattle.face_steps.specs.LinkLaws.{FitsLinked, FitsUnlinked}
use Rattle.face_steps.specs.NameLaws.{IsToldOf, LinkedComes, LinkedSplitsOff, CycleComes, CycleGoes, FaceComes, FaceGoes, ChangesKeepFirst, ChangesKeepNames}
use Rattle.face_steps.specs.Tabled.{AreTabled}
use Rattle.face_steps.proofs.Choices.{tables_are_sound}
use Rattle.face_steps.proofs.CyclesApart.{cycle_by_number, cycle_cases as two_cycles}
use Rattle.face_steps.proofs.FaceRows.{map_some, put_name_has, del_name_has, first_before}
use Rattle.face_steps.proofs.StepUnites.{unite_keeps_first}
use Rattle.face_steps.proofs.UnlinkedFaces.{place_first, place_second, between, no_follow}

-- ---- rows
module _ {X : Type 0} (k n : ℕ) (rs : List (ℕ × X)) where
  put_has : (x : X) → IsSome (row_at (put k x rs) n) ↔ (IsSome (row_at rs n) ⊎ (n ≡ k))
  put_has x = elim (cases_eq k n) [
    | inl e ↦ (λ h. inr (sym e), λ h. subst IsSome (sym (row_at-put k x rs n ∙ ap (λ b. cond b (Some x) (row_at rs n)) (ap (λ z. z == n) e ∙ same_number n))) refl)
    | inr ne ↦
        let q : row_at (put k x rs) n ≡ row_at rs n = row_at-put k x rs n ∙ ap (λ b. cond b (Some x) (row_at rs n)) (other_number k n ne) in
        (λ h. inl (subst IsSome q h), λ h. elim h [ inl i ↦ subst IsSome (sym q) i | inr e ↦ absurd (ne (sym e)) ])
  ]

  del_has : NamesAscend (names rs) → IsSome (row_at (del k rs) n) ↔ (IsSome (row_at rs n) × (n ≢ k))
  del_has up = elim (cases_eq k n) [
    | inl e ↦
        let q : row_at (del k rs) n ≡ None = row_at-del k rs n up ∙ ap (λ b. cond b None (row_at rs n)) (ap (λ z. z == n) e ∙ same_number n) in
        (λ h. absurd (false≢true (subst IsSome q h)), λ h. absurd (h.1 (sym e)))
    | inr ne ↦
        let q : row_at (del k rs) n ≡ row_at rs n = row_at-del k rs n up ∙ ap (λ b. cond b None (row_at rs n)) (other_number k n ne) in
        (λ h. (subst IsSome q h, λ e. ne (sym e)), λ h. subst IsSome (sym q) h.0)
  ]

module _ {X : Type 0} (f : ℕ → X → X) (rs : List (ℕ × X)) (n : ℕ) where
  each_has : IsSome (row_at (each f rs) n) ↔ IsSome (row_at rs n)
  each_has =
      let q = row_at-each f rs n in
      let m = map_some (f n) (row_at rs n) in
      (λ h. m.1 (subst IsSome q h), λ h. subst IsSome (sym q) (m.0 h))

-- ---- what is there afterwards: what was and doesn't go, and what comes
abbrev IsAfter : Type 0 → Type 0 → Type 0 → Type 0 → Type 0
IsAfter now was goes comes = now ↔ ((was × (¬ goes)) ⊎ comes)

module _ {now was goes comes : Type 0} where
  as_was : now ↔ was → (goes → ⊥) → (comes → ⊥) → IsAfter now was goes comes
  as_was h g c = (λ o. inl (h.0 o, g), λ o. elim o [ inl r ↦ h.1 r.0 | inr r ↦ absurd (c r) ])

  one_more : now ↔ (was ⊎ comes) → (goes → ⊥) → IsAfter now was goes comes
  one_more h g = (λ o. elim (h.0 o) [ inl r ↦ inl (r, g) | inr r ↦ inr r ], λ o. h.1 (elim o [ inl r ↦ inl r.0 | inr r ↦ inr r ]))

  one_fewer : now ↔ (was × (¬ goes)) → (comes → ⊥) → IsAfter now was goes comes
  one_fewer h c = (λ o. inl (h.0 o), λ o. elim o [ inl r ↦ h.1 r | inr r ↦ absurd (c r) ])

same : {A : Type 0} → A ↔ A
same = (λ x. x, λ x. x)

-- ---- cycles
module _ (rs : List (ℕ × CycleRecord)) (a c : CycleId) where
  cycle_more : (r : CycleRecord) → IsSome (row_at (put c.0 r rs) a.0) ↔ (IsSome (row_at rs a.0) ⊎ (a ≡ c))
  cycle_more r =
      let h = put_has c.0 a.0 rs r in (
        λ o. elim (h.0 o) [ inl i ↦ inl i | inr e ↦ inr (cycle_by_number a c e) ],
        λ o. h.1 (elim o [ inl i ↦ inl i | inr e ↦ inr (ap (λ (z : CycleId). z.0) e) ]),
      )

  cycle_fewer : NamesAscend (names rs) → IsSome (row_at (del c.0 rs) a.0) ↔ (IsSome (row_at rs a.0) × (a ≢ c))
  cycle_fewer up =
      let h = del_has c.0 a.0 rs up in (
        λ o. ((h.0 o).0, λ e. (h.0 o).1 (ap (λ (z : CycleId). z.0) e)),
        λ o. h.1 (o.0, λ e. o.1 (cycle_by_number a c e)),
      )

none_there : (a : CycleId) → IsSome (row_at {X = CycleRecord} [] a.0) → ⊥
unfolding row_at
none_there a o = false≢true o

module _ (v : View) (f : Faces) (a : CycleId) (up : NamesAscend (names f.cycles)) where
  cycles_after : (c : Change) → IsAfter (HasCycle (faces_after v f c) a) (HasCycle f a) (CycleGoes c a) (CycleComes c a)
  cycles_after (AddVertex u p face) = as_was same (λ g. g) (λ g. g)
  cycles_after (RemoveVertex u) = as_was same (λ g. g) (λ g. g)
  cycles_after (SplitEdge d u p n m) = as_was same (λ g. g) (λ g. g)
  cycles_after (MergeEdge u d n) = as_was same (λ g. g) (λ g. g)
  cycles_after (AddEdge d m p q at_p at_q l k (NewHole cycle face)) = one_more (cycle_more f.cycles a cycle _) (λ g. g)
  cycles_after (AddEdge d m p q at_p at_q l k (Grows cycle)) = as_was same (λ g. g) (λ g. g)
  cycles_after (AddEdge d m p q at_p at_q l k (Joins kept gone)) = one_fewer (cycle_fewer f.cycles a gone up) (λ g. g)
  cycles_after (AddEdge d m p q at_p at_q l k (Splits kept fresh x face moved)) =
      let h = each_has _ (put fresh.0 _ f.cycles) a.0 in
      let r = cycle_more f.cycles a fresh _ in
      one_more (λ o. r.0 (h.0 o), λ o. h.1 (r.1 o)) (λ g. g)
  cycles_after (RemoveEdge d m (Vanishes cycle face)) = one_fewer (cycle_fewer f.cycles a cycle up) (λ g. g)
  cycles_after (RemoveEdge d m (Shrinks cycle face)) = as_was same (λ g. g) (λ g. g)
  cycles_after (RemoveEdge d m (Breaks kept fresh x)) = one_more (cycle_more f.cycles a fresh _) (λ g. g)
  cycles_after (RemoveEdge d m (Unites kept gone face moved)) =
      let h = each_has _ f.cycles a.0 in
      let r = cycle_fewer (each _ f.cycles) a gone (ascend-each _ f.cycles up) in
      one_fewer (λ o. (h.0 (r.0 o).0, (r.0 o).1), λ o. r.1 (h.1 o.0, o.1)) (λ g. g)
  cycles_after (AddCurve d k) = as_was same (λ g. g) (λ g. g)
  cycles_after (RemoveCurve d k) = as_was same (λ g. g) (λ g. g)
  cycles_after (SetPin u) = as_was same (λ g. g) (λ g. g)
  cycles_after (ClearPin u) = as_was same (λ g. g) (λ g. g)
  cycles_after (Clear face) = (λ o. absurd (none_there a o), λ o. elim o [ inl r ↦ absurd (r.1 tt) | inr r ↦ absurd r ])

-- a name is told to go, or isn't
cycle_cases : (c : Change) (a : CycleId) → CycleGoes c a ⊎ (¬ CycleGoes c a)
cycle_cases (AddVertex u p face) a = inr (λ g. g)
cycle_cases (RemoveVertex u) a = inr (λ g. g)
cycle_cases (SplitEdge d u p n m) a = inr (λ g. g)
cycle_cases (MergeEdge u d n) a = inr (λ g. g)
cycle_cases (AddEdge d m p q at_p at_q l k (NewHole cycle face)) a = inr (λ g. g)
cycle_cases (AddEdge d m p q at_p at_q l k (Grows cycle)) a = inr (λ g. g)
cycle_cases (AddEdge d m p q at_p at_q l k (Joins kept gone)) a = two_cycles a gone
cycle_cases (AddEdge d m p q at_p at_q l k (Splits kept fresh x face moved)) a = inr (λ g. g)
cycle_cases (RemoveEdge d m (Vanishes cycle face)) a = two_cycles a cycle
cycle_cases (RemoveEdge d m (Shrinks cycle face)) a = inr (λ g. g)
cycle_cases (RemoveEdge d m (Breaks kept fresh x)) a = inr (λ g. g)
cycle_cases (RemoveEdge d m (Unites kept gone face moved)) a = two_cycles a gone
cycle_cases (AddCurve d k) a = inr (λ g. g)
cycle_cases (RemoveCurve d k) a = inr (λ g. g)
cycle_cases (SetPin u) a = inr (λ g. g)
cycle_cases (ClearPin u) a = inr (λ g. g)
cycle_cases (Clear face) a = inl tt

-- none comes and goes
cycle_one_way : (c : Change) (a : CycleId) → CycleGoes c a → ¬ CycleComes c a
cycle_one_way (AddVertex u p face) a g o = o
cycle_one_way (RemoveVertex u) a g o = o
cycle_one_way (SplitEdge d u p n m) a g o = o
cycle_one_way (MergeEdge u d n) a g o = o
cycle_one_way (AddEdge d m p q at_p at_q l k (NewHole cycle face)) a g o = g
cycle_one_way (AddEdge d m p q at_p at_q l k (Grows cycle)) a g o = g
cycle_one_way (AddEdge d m p q at_p at_q l k (Joins kept gone)) a g o = o
cycle_one_way (AddEdge d m p q at_p at_q l k (Splits kept fresh x face moved)) a g o = g
cycle_one_way (RemoveEdge d m (Vanishes cycle face)) a g o = o
cycle_one_way (RemoveEdge d m (Shrinks cycle face)) a g o = o
cycle_one_way (RemoveEdge d m (Breaks kept fresh x)) a g o = g
cycle_one_way (RemoveEdge d m (Unites kept gone face moved)) a g o = o
cycle_one_way (AddCurve d k) a g o = o
cycle_one_way (RemoveCurve d k) a g o = o
cycle_one_way (SetPin u) a g o = o
cycle_one_way (ClearPin u) a g o = o
cycle_one_way (Clear face) a g o = o

-- ---- faces
the_one : (face a : FaceId) → Contains (face.0 ∷ []) a.0 → a ≡ face
the_one face a o = elim (in_member (face.0 ∷ []) a.0 o) [ inl e ↦ by_number a face (sym e) | inr r ↦ absurd r ]

one_there : (face a : FaceId) → a ≡ face → Contains (face.0 ∷ []) a.0
one_there face a e = member_in (face.0 ∷ []) a.0 (inl (ap (λ (z : FaceId). z.0) (sym e)))

module _ (v : View) (f : Faces) (a : FaceId) (up : NamesAscend f.faces) (there : HasFace f (first_or f.faces)) where
  faces_at : (c : Change) → FitsNoted v f c → IsAfter (HasFace (faces_after v f c) a) (HasFace f a) (FaceGoes c a) (FaceComes c a)
  faces_at (AddVertex u p face) t = as_was same (λ g. g) (λ g. g)
  faces_at (RemoveVertex u) t = as_was same (λ g. g) (λ g. g)
  faces_at (SplitEdge d u p n m) t = as_was same (λ g. g) (λ g. g)
  faces_at (MergeEdge u d n) t = as_was same (λ g. g) (λ g. g)
  faces_at (AddEdge d m p q at_p at_q l k (NewHole cycle face)) t = as_was same (λ g. g) (λ g. g)
  faces_at (AddEdge d m p q at_p at_q l k (Grows cycle)) t = as_was same (λ g. g) (λ g. g)
  faces_at (AddEdge d m p q at_p at_q l k (Joins kept gone)) t = as_was same (λ g. g) (λ g. g)
  faces_at (AddEdge d m p q at_p at_q l k (Splits kept fresh x face moved)) t =
      let h = put_name_has face.0 f.faces a.0 in
      one_more (λ o. elim (h.0 o) [ inl i ↦ inl i | inr e ↦ inr (by_number a face e) ], λ o. h.1 (elim o [ inl i ↦ inl i | inr e ↦ inr (ap (λ (z : FaceId). z.0) e) ])) (λ g. g)
  faces_at (RemoveEdge d m (Vanishes cycle face)) t = as_was same (λ g. g) (λ g. g)
  faces_at (RemoveEdge d m (Shrinks cycle face)) t = as_was same (λ g. g) (λ g. g)
  faces_at (RemoveEdge d m (Breaks kept fresh x)) t = as_was same (λ g. g) (λ g. g)
  faces_at (RemoveEdge d m (Unites kept gone face moved)) t =
      let h = del_name_has face.0 f.faces a.0 up in
      one_fewer (λ o. ((h.0 o).0, λ e. (h.0 o).1 (ap (λ (z : FaceId). z.0) e)), λ o. h.1 (o.0, λ e. o.1 (by_number a face e))) (λ g. g)
  faces_at (AddCurve d k) t = as_was same (λ g. g) (λ g. g)
  faces_at (RemoveCurve d k) t = as_was same (λ g. g) (λ g. g)
  faces_at (SetPin u) t = as_was same (λ g. g) (λ g. g)
  faces_at (ClearPin u) t = as_was same (λ g. g) (λ g. g)
  faces_at (Clear face) t = (
    λ o. let e = the_one face a o in inl (subst (HasFace f) (sym (e ∙ t)) there, λ n. n e),
    λ o. elim o [ inl r ↦ elim (two_faces a face) [ inl e ↦ one_there face a e | inr n ↦ absurd (r.1 n) ] | inr r ↦ absurd r ],
  )

face_cases : (c : Change) (a : FaceId) → FaceGoes c a ⊎ (¬ FaceGoes c a)
face_cases (AddVertex u p face) a = inr (λ g. g)
face_cases (RemoveVertex u) a = inr (λ g. g)
face_cases (SplitEdge d u p n m) a = inr (λ g. g)
face_cases (MergeEdge u d n) a = inr (λ g. g)
face_cases (AddEdge d m p q at_p at_q l k faces) a = inr (λ g. g)
face_cases (RemoveEdge d m (Vanishes cycle face)) a = inr (λ g. g)
face_cases (RemoveEdge d m (Shrinks cycle face)) a = inr (λ g. g)
face_cases (RemoveEdge d m (Breaks kept fresh x)) a = inr (λ g. g)
face_cases (RemoveEdge d m (Unites kept gone face moved)) a = two_faces a face
face_cases (AddCurve d k) a = inr (λ g. g)
face_cases (RemoveCurve d k) a = inr (λ g. g)
face_cases (SetPin u) a = inr (λ g. g)
face_cases (ClearPin u) a = inr (λ g. g)
face_cases (Clear face) a = elim (two_faces a face) [ inl e ↦ inr (λ n. n e) | inr n ↦ inl n ]

face_one_way : (c : Change) (a : FaceId) → FaceGoes c a → ¬ FaceComes c a
face_one_way (AddEdge d m p q at_p at_q l k faces) a g o = g
face_one_way (RemoveEdge d m faces) a g o = o
face_one_way (AddVertex u p face) a g o = o
face_one_way (RemoveVertex u) a g o = o
face_one_way (SplitEdge d u p n m) a g o = o
face_one_way (MergeEdge u d n) a g o = o
face_one_way (AddCurve d k) a g o = o
face_one_way (RemoveCurve d k) a g o = o
face_one_way (SetPin u) a g o = o
face_one_way (ClearPin u) a g o = o
face_one_way (Clear face) a g o = o

-- ---- what comes is new
linked_cycle : (v w : View) (f : Faces) (d m : DartId) (p : VertexId) (at_p at_q : Option DartId) (faces : Linked) → FitsLinked v w f d m p at_p at_q faces → (a : CycleId) → LinkedComes faces a → ¬ HasCycle f a
linked_cycle v w f d m p None None (NewHole cycle face) t a g = subst (λ z. ¬ HasCycle f z) (sym g) t.0
linked_cycle v w f d m p (Some i) None (Grows cycle) t a g = absurd g
linked_cycle v w f d m p None (Some j) (Grows cycle) t a g = absurd g
linked_cycle v w f d m p (Some i) (Some j) (Joins kept gone) t a g = absurd g
linked_cycle v w f d m p (Some i) (Some j) (Splits kept fresh x face moved) t a g = subst (λ z. ¬ HasCycle f z) (sym g) (elim t [ inl r ↦ r.1.new_cycle | inr r ↦ r.1.new_cycle ])
linked_cycle v w f d m p None None (Grows c) t a g = absurd t
linked_cycle v w f d m p None None (Joins kept gone) t a g = absurd t
linked_cycle v w f d m p None None (Splits kept fresh x face moved) t a g = absurd t
linked_cycle v w f d m p (Some i) None (NewHole c face) t a g = absurd t
linked_cycle v w f d m p (Some i) None (Joins kept gone) t a g = absurd t
linked_cycle v w f d m p (Some i) None (Splits kept fresh x face moved) t a g = absurd t
linked_cycle v w f d m p None (Some j) (NewHole c face) t a g = absurd t
linked_cycle v w f d m p None (Some j) (Joins kept gone) t a g = absurd t
linked_cycle v w f d m p None (Some j) (Splits kept fresh x face moved) t a g = absurd t
linked_cycle v w f d m p (Some i) (Some j) (NewHole c face) t a g = absurd t
linked_cycle v w f d m p (Some i) (Some j) (Grows c) t a g = absurd t

linked_face : (v w : View) (f : Faces) (d m : DartId) (p : VertexId) (at_p at_q : Option DartId) (faces : Linked) → FitsLinked v w f d m p at_p at_q faces → (a : FaceId) → LinkedSplitsOff faces a → (¬ HasFace f a) × ((first_or f.faces).0 < a.0)
linked_face v w f d m p at_p at_q (NewHole cycle face) t a g = absurd g
linked_face v w f d m p at_p at_q (Grows cycle) t a g = absurd g
linked_face v w f d m p at_p at_q (Joins kept gone) t a g = absurd g
linked_face v w f d m p (Some i) (Some j) (Splits kept fresh x face moved) t a g = subst (λ z. (¬ HasFace f z) × ((first_or f.faces).0 < z.0)) (sym g) (elim t [ inl r ↦ (r.1.new_face, r.1.later) | inr r ↦ (r.1.new_face, r.1.later) ])
linked_face v w f d m p None None (Splits kept fresh x face moved) t a g = absurd t
linked_face v w f d m p (Some i) None (Splits kept fresh x face moved) t a g = absurd t
linked_face v w f d m p None (Some j) (Splits kept fresh x face moved) t a g = absurd t

new_cycle : (v : View) (f : Faces) (c : Change) → FitsNoted v f c → (a : CycleId) → CycleComes c a → ¬ HasCycle f a
new_cycle v f (AddEdge d m p q at_p at_q l k faces) t a g = linked_cycle v (step v (AddEdge d m p q at_p at_q l k faces)) f d m p at_p at_q faces t a g
new_cycle v f (RemoveEdge d m (Breaks kept fresh x)) t a g = subst (λ z. ¬ HasCycle f z) (sym g) t.4
new_cycle v f (RemoveEdge d m (Vanishes cycle face)) t a g = absurd g
new_cycle v f (RemoveEdge d m (Shrinks cycle face)) t a g = absurd g
new_cycle v f (RemoveEdge d m (Unites kept gone face moved)) t a g = absurd g
new_cycle v f (AddVertex u p face) t a g = absurd g
new_cycle v f (RemoveVertex u) t a g = absurd g
new_cycle v f (SplitEdge d u p n m) t a g = absurd g
new_cycle v f (MergeEdge u d n) t a g = absurd g
new_cycle v f (AddCurve d k) t a g = absurd g
new_cycle v f (RemoveCurve d k) t a g = absurd g
new_cycle v f (SetPin u) t a g = absurd g
new_cycle v f (ClearPin u) t a g = absurd g
new_cycle v f (Clear face) t a g = absurd g

new_face : (v : View) (f : Faces) (c : Change) → FitsNoted v f c → (a : FaceId) → FaceComes c a → ¬ HasFace f a
new_face v f (AddEdge d m p q at_p at_q l k faces) t a g = (linked_face v (step v (AddEdge d m p q at_p at_q l k faces)) f d m p at_p at_q faces t a g).0
new_face v f (RemoveEdge d m faces) t a g = absurd g
new_face v f (AddVertex u p face) t a g = absurd g
new_face v f (RemoveVertex u) t a g = absurd g
new_face v f (SplitEdge d u p n m) t a g = absurd g
new_face v f (MergeEdge u d n) t a g = absurd g
new_face v f (AddCurve d k) t a g = absurd g
new_face v f (RemoveCurve d k) t a g = absurd g
new_face v f (SetPin u) t a g = absurd g
new_face v f (ClearPin u) t a g = absurd g
new_face v f (Clear face) t a g = absurd g

-- ---- the unbounded face isn't the one that goes where two are united
module _ (v : View) (f : Faces) (d : DartId) (s : IsGraphSound v) (has : HasDart v d) (h : AreTabled v f) (kept gone : CycleId) (face : FaceId) (moved : MovedView) (k : FitsUnlinked v f d (Unites kept gone face moved)) where
  two : cycle_in f d ≢ cycle_in f (twin_in v d)
  two q = elim k [ inl r ↦ r.two (sym r.second ∙ sym q ∙ r.first) | inr r ↦ r.two (sym r.second ∙ q ∙ r.first) ]

  united_first : first_or (del_name face.0 f.faces) ≡ first_or f.faces
  united_first =
      let m = no_follow v f d s has h two in
      let i = place_first v f d s has h m.0 in
      let j = place_second v f d s has h m.1 in
      let b = between v f d s has h i j in
      unite_keeps_first (remove_edge v d (twin_in v d)) v d (twin_in v d) (source_in v d) (target_in v d) b.line b.edge i.0 j.0 b.first b.second b.after_first b.after_second f kept gone face moved.cycles moved.vertices k h

-- ---- the laws
module _ (v : View) (f : Faces) (c : Change) (t : IsToldOf v f c) where
  tabled : AreTabled v f
  tabled = (tables_are_sound v f t.sound.graph).1 t.sound

  cycle_law : (a : CycleId) → IsAfter (HasCycle (faces_after v f c) a) (HasCycle f a) (CycleGoes c a) (CycleComes c a)
  cycle_law a = cycles_after v f a t.sound.complete.cycles_ascend c

  face_law : (a : FaceId) → IsAfter (HasFace (faces_after v f c) a) (HasFace f a) (FaceGoes c a) (FaceComes c a)
  face_law a = faces_at v f a t.sound.complete.faces_ascend tabled.told.there c t.noted

  first_kept : (x : Change) → FitsChange v t.curves x → FitsNoted v f x → first_or (faces_after v f x).faces ≡ first_or f.faces
  first_kept (AddVertex u p face) k n = refl
  first_kept (RemoveVertex u) k n = refl
  first_kept (SplitEdge d u p e m) k n = refl
  first_kept (MergeEdge u d e) k n = refl
  first_kept (AddEdge d m p q at_p at_q l i (NewHole cycle face)) k n = refl
  first_kept (AddEdge d m p q at_p at_q l i (Grows cycle)) k n = refl
  first_kept (AddEdge d m p q at_p at_q l i (Joins kept gone)) k n = refl
  first_kept (AddEdge d m p q at_p at_q l i (Splits kept fresh x face moved)) k n =
      first_before face.0 f.faces tabled.told.there (linked_face v (step v (AddEdge d m p q at_p at_q l i (Splits kept fresh x face moved))) f d m p at_p at_q (Splits kept fresh x face moved) n face refl).1
  first_kept (RemoveEdge d m (Vanishes cycle face)) k n = refl
  first_kept (RemoveEdge d m (Shrinks cycle face)) k n = refl
  first_kept (RemoveEdge d m (Breaks kept fresh x)) k n = refl
  first_kept (RemoveEdge d m (Unites kept gone face moved)) k n = united_first v f d t.sound.graph k.0.0 tabled kept gone face moved n
  first_kept (AddCurve d i) k n = refl
  first_kept (RemoveCurve d i) k n = refl
  first_kept (SetPin u) k n = refl
  first_kept (ClearPin u) k n = refl
  first_kept (Clear face) k n = n

pub changes_keep_first : ChangesKeepFirst
changes_keep_first v f c t = first_kept v f c t c t.fits t.noted

module _ {now was goes comes : Type 0} (h : IsAfter now was goes comes) where
  stays : (goes ⊎ (¬ goes)) → was → now ⊎ goes
  stays (inl g) o = inr g
  stays (inr n) o = inl (h.1 (inl (o, n)))

  was_there : now → was ⊎ comes
  was_there o = elim (h.0 o) [ inl r ↦ inl r.0 | inr r ↦ inr r ]

pub changes_keep_names : ChangesKeepNames
changes_keep_names = record {
  cycle_stays = λ v f c t a o. stays (cycle_law v f c t a) (cycle_cases c a) o;
  cycle_was = λ v f c t a o. was_there (cycle_law v f c t a) o;
  cycle_comes = λ v f c t a g. (new_cycle v f c t.noted a g, (cycle_law v f c t a).1 (inr g));
  cycle_goes = λ v f c t a g o. elim ((cycle_law v f c t a).0 o) [ inl r ↦ r.1 g | inr r ↦ cycle_one_way c a g r ];
  face_stays = λ v f c t a o. stays (face_law v f c t a) (face_cases c a) o;
  face_was = λ v f c t a o. was_there (face_law v f c t a) o;
  face_comes = λ v f c t a g. (new_face v f c t.noted a g, (face_law v f c t a).1 (inr g));
  face_goes = λ v f c t a g o. elim ((face_law v f c t a).0 o) [ inl r ↦ r.1 g | inr r ↦ face_one_way c a g r ];
}
