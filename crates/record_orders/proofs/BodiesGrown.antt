-- The cycles and the faces, as the list that they are made of grows at its end.
use Rattle.std.proofs.Common.{◌≡◌, ℕ, ◌+◌, ◌<◌, Bool, true, false, cond, refl, sym, ap, subst, is_some, ◌∙◌, Option, inl, inr, List, [], ◌∷◌, ◌++◌, map, length, take, get_or, arith, Some, None}
use Rattle.std.specs.Prelude.{filter, not, ◌||◌, ◌==◌}
use Rattle.std.specs.List.{list_any, position, position_or_len}
use Rattle.std.proofs.lemmas.Bool.{cases_Bool, eqb-true}
use Rattle.std.proofs.lemmas.Bool.Decides.{nat_tests}
use Rattle.std.proofs.lemmas.List.{append-nil, append_assoc, map-append, take_more}
use Rattle.std.proofs.lemmas.List.Elements.{filter_more}
use Rattle.std.proofs.lemmas.List.Folds.{list_any_more}
use Rattle.std.proofs.lemmas.List.Sums.{prefix_len-le-length}
use Rattle.slab_laws.specs.Kinds.{is_outer}
use Rattle.slab_laws.specs.Listed.{distinct}
use Rattle.slab_laws.specs.View.{Faces, cycle_in, kind_in, face_in, face_after_in}
use Rattle.slab_laws.specs.declared.names.CycleId.{CycleId}
use Rattle.slab_laws.specs.declared.names.CycleKind.{CycleKind}
use Rattle.slab_laws.specs.declared.names.DartId.{DartId}
use Rattle.slab_laws.specs.declared.names.FaceId.{FaceId}
use Rattle.record_orders.specs.declared.cycles.CycleKey.{CycleKey}
use Rattle.record_orders.specs.CycleKeys.{same_cycle, cycle_key, cycle_keys, same_face, first_faces, ranked_faces, added, AreRanks}
use Rattle.record_orders.proofs.CycleFirsts.{distinct_more, added_distinct}
use Rattle.record_orders.proofs.CyclePlaces.{among, position_more}

-- ---- cycles
-- the table has the cycles of the darts marked
abbrev pub AreSeen : Faces → List Bool → List DartId → Type 0
AreSeen f seen ds = (n : ℕ) → get_or seen n false ≡ list_any (λ d. n == (cycle_in f d).0) ds

pub seen_none : (f : Faces) (seen : List Bool) → seen ≡ [] → AreSeen f seen []
seen_none f seen e n = ap (λ bs. get_or bs n false) e

module _ (f : Faces) (ds : List DartId) (i : ℕ) (d : DartId) (below : i < length ds) where
  abbrev at : DartId
  at = get_or ds i d

  -- one more dart
  keys_more : (b : Bool) → list_any (same_cycle f at) (take i ds) ≡ b → cycle_keys f (take (i + 1) ds) ≡ cycle_keys f (take i ds) ++ cond b [] (cycle_key f at ∷ [])
  keys_more b e =
      ap (cycle_keys f) (take_more ds i d below)
      ∙ ap (map (cycle_key f)) (distinct_more (λ d. (cycle_in f d).0) (take i ds) at)
      ∙ map-append (cycle_key f) (distinct (same_cycle f) (take i ds)) (cond (list_any (same_cycle f at) (take i ds)) [] (at ∷ []))
      ∙ ap (λ xs. cycle_keys f (take i ds) ++ xs) (ap (λ c. map (cycle_key f) (cond c [] (at ∷ []))) e ∙ one b)
    where
      one : (b : Bool) → map (cycle_key f) (cond b [] (at ∷ [])) ≡ cond b [] (cycle_key f at ∷ [])
      one true = refl
      one false = refl

  module _ (seen : List Bool) (c : CycleId) (is : c ≡ cycle_in f at) (are : AreSeen f seen (take i ds)) where
    -- the table tells whether a dart before is on the cycle
    stood : (b : Bool) → get_or seen c.0 false ≡ b → list_any (same_cycle f at) (take i ds) ≡ b
    stood b e = sym (ap (λ c. list_any (λ e. c.0 == (cycle_in f e).0) (take i ds)) is) ∙ sym (are c.0) ∙ e

    pub cycle_pushed : (now pushed new : List CycleKey) (kind : CycleKind) (face : FaceId) → kind ≡ kind_in f c → face ≡ face_in f c → get_or seen c.0 false ≡ false → now ≡ cycle_keys f (take i ds) → pushed ≡ now ++ record { lead = at; kind = kind; face = face } ∷ [] → new ≡ pushed → new ≡ cycle_keys f (take (i + 1) ds)
    cycle_pushed now pushed new kind face k a e n h g = g ∙ h ∙ ap (λ xs. xs ++ record { lead = at; kind = kind; face = face } ∷ []) n ∙ ap (λ x. cycle_keys f (take i ds) ++ x ∷ []) key ∙ sym (keys_more false (stood false e))
      where
        key : record { lead = at; kind = kind; face = face } ≡ cycle_key f at
        key = λ j. record { lead = at; kind = (k ∙ ap (kind_in f) is) j; face = (a ∙ ap (face_in f) is) j }

    pub cycle_passed : (now new : List CycleKey) → get_or seen c.0 false ≡ true → now ≡ cycle_keys f (take i ds) → new ≡ now → new ≡ cycle_keys f (take (i + 1) ds)
    cycle_passed now new e n h = h ∙ n ∙ sym (append-nil (cycle_keys f (take i ds))) ∙ sym (keys_more true (stood true e))

    pub seen_more : (new : List Bool) → ((n : ℕ) → get_or new n false ≡ cond (n == c.0) true (get_or seen n false)) → AreSeen f new (take (i + 1) ds)
    seen_more new u n = u n ∙ ap (cond (n == c.0) true) (are n) ∙ step (list_any (λ d. n == (cycle_in f d).0) (take i ds)) (ap (λ c. c.0) is) ∙ sym (list_any_more (λ d. n == (cycle_in f d).0) ds i d below)
      where
        step : (b : Bool) → c.0 ≡ (cycle_in f at).0 → cond (n == c.0) true b ≡ (b || (n == (cycle_in f at).0))
        step true e = grind (arith, nat_tests)
        step false e = grind (arith, nat_tests)

-- ---- faces
-- the faces of the outer cycles
abbrev outer_of : List CycleKey → List FaceId
outer_of cs = map (λ c. c.face) (filter (λ c. is_outer c.kind) cs)

module _ (f : Faces) (cs : List CycleKey) (i : ℕ) (d : CycleKey) (below : i < length cs) where
  abbrev of : CycleKey
  of = get_or cs i d

  -- one more cycle
  outer_more : (b : Bool) → is_outer of.kind ≡ b → outer_of (take (i + 1) cs) ≡ outer_of (take i cs) ++ cond b (of.face ∷ []) []
  outer_more b e =
      ap (map (λ (c : CycleKey). c.face)) (filter_more (λ (c : CycleKey). is_outer c.kind) cs i d below ∙ ap (λ b. filter (λ c. is_outer c.kind) (take i cs) ++ cond b (of ∷ []) []) e)
      ∙ map-append (λ (c : CycleKey). c.face) (filter (λ c. is_outer c.kind) (take i cs)) (cond b (of ∷ []) [])
      ∙ ap (λ fs. outer_of (take i cs) ++ fs) (one b)
    where
      one : (b : Bool) → map (λ (c : CycleKey). c.face) (cond b (of ∷ []) []) ≡ cond b (of.face ∷ []) []
      one true = refl
      one false = refl

  abbrev first : List FaceId
  first = first_faces (face_after_in f None)

  pub face_added : (now new : List FaceId) → is_outer of.kind ≡ true → now ≡ ranked_faces f (take i cs) → new ≡ added now of.face → new ≡ ranked_faces f (take (i + 1) cs)
  face_added now new e n a =
      a ∙ ap (λ fs. added fs of.face) n
      ∙ added_distinct (λ (a : FaceId). a.0) (first ++ outer_of (take i cs)) of.face
      ∙ ap (distinct same_face) (append_assoc first (outer_of (take i cs)) (of.face ∷ []) ∙ ap (λ fs. first ++ fs) (sym (outer_more true e)))

  pub face_passed : (now new : List FaceId) → is_outer of.kind ≡ false → now ≡ ranked_faces f (take i cs) → new ≡ now → new ≡ ranked_faces f (take (i + 1) cs)
  face_passed now new e n h = h ∙ n ∙ ap (λ fs. distinct same_face (first ++ fs)) (sym (outer_more false e ∙ append-nil (outer_of (take i cs))))

-- what stands before any cycle
pub first_some : (f : Faces) (a : FaceId) (empty now : List FaceId) → face_after_in f None ≡ Some a → empty ≡ [] → now ≡ added empty a → now ≡ ranked_faces f []
unfolding distinct
first_some f a empty now e n h = h ∙ ap (λ fs. added fs a) n ∙ ap (λ o. distinct same_face (first_faces o ++ [])) (sym e)

pub first_none : (f : Faces) (now : List FaceId) → face_after_in f None ≡ None → now ≡ [] → now ≡ ranked_faces f []
unfolding distinct
first_none f now e n = n ∙ ap (λ o. distinct same_face (first_faces o ++ [])) (sym e)

-- ---- ranks
pub ranks_moved : (m n : List (Option ℕ)) (fs gs : List FaceId) → m ≡ n → fs ≡ gs → AreRanks n gs → AreRanks m fs
ranks_moved m n fs gs e h are a = ap (λ m. get_or m a.0 None) e ∙ are a ∙ ap (position (same_face a)) (sym h)

pub ranks_none : (ranks : List (Option ℕ)) (fs : List FaceId) → ranks ≡ [] → fs ≡ [] → AreRanks ranks fs
ranks_none ranks fs e n a = ap (λ m. get_or m a.0 None) e ∙ ap (position (same_face a)) (sym n)

module _ (ranks : List (Option ℕ)) (fs : List FaceId) (are : AreRanks ranks fs) where
  -- a face without a rank isn't in the list
  pub found_none : (a : FaceId) → get_or ranks a.0 None ≡ None → length fs ≡ position_or_len (same_face a) fs
  found_none a e = let h = prefix_len-le-length (λ x. not (same_face a x)) fs in grind (arith, nat_tests, are a)

  -- the table tells whether a face is in the list
  pub stands : (a : FaceId) (b : Bool) → b ≡ is_some (get_or ranks a.0 None) → list_any (same_face a) fs ≡ b
  stands a b e = among (same_face a) fs ∙ grind (arith, nat_tests, are a)

  -- a new face gets the place after the last
  pub ranks_more : (new : List (Option ℕ)) (a : FaceId) → list_any (same_face a) fs ≡ false → ((n : ℕ) → get_or new n None ≡ cond (n == a.0) (Some (length fs)) (get_or ranks n None)) → AreRanks new (fs ++ a ∷ [])
  ranks_more new a e u q =
      u q.0 ∙ ap (cond (same_face q a) (Some (length fs))) (are q) ∙ step ∙ sym (position_more (same_face q) fs a)
    where
      here : a.0 ≡ q.0 → list_any (same_face q) fs ≡ false
      here h = subst (λ n. list_any (λ b. n == b.0) fs ≡ false) h e

      step : cond (same_face q a) (Some (length fs)) (position (same_face q) fs) ≡ cond (list_any (same_face q) fs) (position (same_face q) fs) (cond (same_face q a) (Some (length fs)) None)
      step = let m = among (same_face q) fs in elim (cases_Bool (same_face q a)) [
        | inl s ↦ let e = here (sym (eqb-true q.0 a.0 s)) in grind (arith, nat_tests)
        | inr s ↦ grind (arith, nat_tests)
      ]
