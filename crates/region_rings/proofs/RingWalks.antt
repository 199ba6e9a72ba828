-- A cycle is walked until the walk comes back to its first number.
use Rattle.std.proofs.Common.{◌≡◌, ◌≢◌, ℕ, zero, suc, ◌+◌, ◌<◌, ◌≤◌, cond, arith, refl, sym, ap, ◌∙◌, subst, inl, inr, List, [], ◌∷◌, ◌++◌, length, get_or}
use Rattle.std.specs.Prelude.{slice_set, ◌==◌}
use Rattle.std.specs.List.{count_by}
use Rattle.std.proofs.lemmas.Bool.{cases_eq, cases_lt}
use Rattle.std.proofs.lemmas.List.{length-set, length-append, get_or-set_same, get_or-set_other, get_or_append_left, get_or_push}
use Rattle.std.proofs.lemmas.List.Sums.{sum_by-set}
use Rattle.integers.proofs.Tests.{same_number, other_number}
use Rattle.dart_orbits.specs.Walks.{ArePermuted}
use Rattle.region_rings.specs.Cycles.{ArePlaced, AreClosed, IsRingAdded}

-- ---- one number more has its place
module _ (nexts order places more new : List ℕ) (d : ℕ) (h : ArePlaced nexts order places) (l : d < length nexts) (unmet : get_or places d 0 ≡ length nexts) (e : more ≡ order ++ (d ∷ [])) (s : new ≡ slice_set places d (length order)) where
  there : d < length places
  there = let c = h.counted in omega arith

  one_if : ℕ → ℕ
  one_if x = cond (x == length nexts) 1 0

  one_of : one_if (get_or places d 0) ≡ 1
  unfolding one_if
  one_of = ap (λ x. cond (x == length nexts) 1 0) unmet ∙ ap (λ b. cond b 1 0) (same_number (length nexts))

  none_of : (a : ℕ) → a ≢ length nexts → one_if a ≡ 0
  unfolding one_if
  none_of a ne = ap (λ b. cond b 1 0) (other_number a (length nexts) ne)

  fewer_by : (a : ℕ) → a ≢ length nexts → count_by (λ x. x == length nexts) (slice_set places d a) + 1 ≡ count_by (λ x. x == length nexts) places
  unfolding one_if
  fewer_by a ne =
      let t = sum_by-set (λ x. cond (x == length nexts) 1 0) places d a 0 there in
      let p : cond (get_or places d 0 == length nexts) 1 0 ≡ 1 = one_of in
      let q : cond (a == length nexts) 1 0 ≡ 0 = none_of a ne in
      omega (arith, t, p, q)

  pub room : length order < length nexts
  room = let t = fewer_by (suc (length nexts)) (λ q. omega arith) in let r = h.rest in omega arith

  longer : length more ≡ length order + 1
  longer = ap length e ∙ length-append order (d ∷ [])

  pub before : (i : ℕ) → i < length order → get_or more i 0 ≡ get_or order i 0
  before i m = ap (λ xs. get_or xs i 0) e ∙ get_or_append_left order (d ∷ []) 0 i m

  pub last : (i : ℕ) → i ≡ length order → get_or more i 0 ≡ d
  last i q = ap (λ xs. get_or xs i 0) e ∙ get_or_push order d 0 i (sym q)

  pub same : get_or new d 0 ≡ length order
  same = ap (λ xs. get_or xs d 0) s ∙ get_or-set_same places d (length order) 0 there

  pub others : (k : ℕ) → k ≢ d → get_or new k 0 ≡ get_or places k 0
  others k ne = ap (λ xs. get_or xs k 0) s ∙ get_or-set_other places d k (length order) 0 ne

  not_placed : (i : ℕ) → i < length order → get_or order i 0 ≢ d
  not_placed i m q = let t = h.told i m in let u = ap (λ k. get_or places k 0) q in let r = room in absurd (omega arith)

  pub placed_more : ArePlaced nexts more new
  placed_more = record {
    counted = ap length s ∙ length-set places d (length order) ∙ h.counted;
    rest = (
        let r = h.rest in let k = room in let t = fewer_by (length order) (λ q. omega arith) in let u = longer in
        let v : count_by (λ x. x == length nexts) new ≡ count_by (λ x. x == length nexts) (slice_set places d (length order)) = ap (count_by (λ x. x == length nexts)) s in
        omega arith);
    within = λ i m. elim (cases_lt i (length order)) [
      | inl a ↦ subst (λ (n : ℕ). n < length nexts) (sym (before i a)) (h.within i a)
      | inr a ↦ (let u = longer in subst (λ (n : ℕ). n < length nexts) (sym (last i (omega arith))) l)
    ];
    told = λ i m. elim (cases_lt i (length order)) [
      | inl a ↦ ap (λ k. get_or new k 0) (before i a) ∙ others (get_or order i 0) (not_placed i a) ∙ h.told i a
      | inr a ↦ (let u = longer in let q : i ≡ length order = omega arith in ap (λ k. get_or new k 0) (last i q) ∙ same ∙ sym q)
    ];
    found = λ k m ne. elim (cases_eq k d) [
      | inl q ↦ (
          let p : get_or new k 0 ≡ length order = ap (λ j. get_or new j 0) q ∙ same in
          let u = longer in
          (omega arith, last (get_or new k 0) p ∙ sym q))
      | inr q ↦ (
          let p = others k q in
          let f = h.found k m (λ x. ne (p ∙ x)) in
          let b = f.0 in
          let u = longer in
          (omega (arith, p, b, u), ap (λ j. get_or more j 0) p ∙ before (get_or places k 0) f.0 ∙ f.1))
    ];
  }

-- ---- the walk
module _ (nexts : List ℕ) (first : ℕ) (old : List ℕ) where
  -- it stands at d; either it has just begun, or d follows the last number
  pub data Stands (order places : List ℕ) (d : ℕ) : Type 0 where
    begun : length order ≡ length old → d ≡ first → get_or places d 0 ≡ length nexts → Stands order places d
    onward : length old < length order → get_or order (length old) 0 ≡ first → ((i : ℕ) → i + 1 ≡ length order → get_or nexts (get_or order i 0) 0 ≡ d) → Stands order places d

  pub record IsWalking (order places : List ℕ) (d : ℕ) : Type 0 where
    pub placed : ArePlaced nexts order places
    pub within : d < length nexts
    pub longer : length old ≤ length order
    pub kept : (i : ℕ) → i < length old → get_or order i 0 ≡ get_or old i 0
    pub along : (i : ℕ) → length old ≤ i → i + 1 < length order → get_or nexts (get_or order i 0) 0 ≡ get_or order (i + 1) 0
    pub stands : Stands order places d

pub begin : (nexts : List ℕ) (first : ℕ) (old places : List ℕ) → ArePlaced nexts old places → first < length nexts → get_or places first 0 ≡ length nexts → IsWalking nexts first old old places first
begin nexts first old places h l u = record {
  placed = h;
  within = l;
  longer = omega arith;
  kept = λ i m. refl;
  along = λ i m n. absurd (omega arith);
  stands = begun refl refl u;
}

module _ (nexts : List ℕ) (perm : ArePermuted nexts) (first : ℕ) (old order places : List ℕ) (d : ℕ) (h : IsWalking nexts first old order places d) where
  module _ (more new : List ℕ) (unmet : get_or places d 0 ≡ length nexts) (e : more ≡ order ++ (d ∷ [])) (s : new ≡ slice_set places d (length order)) where
    grown : length more ≡ length order + 1
    grown = ap length e ∙ length-append order (d ∷ [])

    pub early : (i : ℕ) → i < length order → get_or more i 0 ≡ get_or order i 0
    early = before nexts order places more new d h.placed h.within unmet e s

    at_last : (i : ℕ) → i ≡ length order → get_or more i 0 ≡ d
    at_last = last nexts order places more new d h.placed h.within unmet e s

    last_follows : (i : ℕ) → length old ≤ i → i + 1 ≡ length order → Stands nexts first old order places d → get_or nexts (get_or order i 0) 0 ≡ d
    last_follows i m q (begun a b c) = absurd (omega arith)
    last_follows i m q (onward a b f) = f i q

    first_is : Stands nexts first old order places d → get_or more (length old) 0 ≡ first
    first_is (begun a b c) = at_last (length old) (sym a) ∙ b
    first_is (onward a b f) = early (length old) a ∙ b

    pub step : IsWalking nexts first old more new (get_or nexts d 0)
    step = record {
      placed = placed_more nexts order places more new d h.placed h.within unmet e s;
      within = perm.within d h.within;
      longer = (let a = h.longer in let g = grown in omega arith);
      kept = λ i m. early i (let a = h.longer in omega arith) ∙ h.kept i m;
      along = λ i m n. (
          let g = grown in
          let I : i < length order = omega arith in
          ap (λ k. get_or nexts k 0) (early i I) ∙ elim (cases_lt (i + 1) (length order)) [
            | inl a ↦ h.along i m a ∙ sym (early (i + 1) a)
            | inr a ↦ last_follows i m (omega arith) h.stands ∙ sym (at_last (i + 1) (omega arith))
          ]);
      stands = onward (let a = h.longer in let g = grown in omega arith) (first_is h.stands) (λ i q. (let g = grown in ap (λ k. get_or nexts k 0) (at_last i (omega arith))));
    }

  module _ (closed : AreClosed nexts old) (met : get_or places d 0 ≢ length nexts) where
    one_place : (i j : ℕ) → i < length order → j < length order → get_or order i 0 ≡ get_or order j 0 → i ≡ j
    one_place i j m n e = sym (h.placed.told i m) ∙ ap (λ k. get_or places k 0) e ∙ h.placed.told j n

    one_before : (i j : ℕ) → i < length order → j < length order → get_or nexts (get_or order i 0) 0 ≡ get_or nexts (get_or order j 0) 0 → i ≡ j
    one_before i j m n e = one_place i j m n (perm.one (get_or order i 0) (get_or order j 0) (h.placed.within i m) (h.placed.within j n) e)

    module _ (more : length old < length order) (last_to : (i : ℕ) → i + 1 ≡ length order → get_or nexts (get_or order i 0) 0 ≡ d) where
      -- a number that stood before follows one that did
      not_before : (p i : ℕ) → p < length old → get_or order p 0 ≡ d → i + 1 ≡ length order → ⊥
      not_before p i l e q =
          let w = closed p l in
          let L = h.longer in
          let W : w.0 < length old = w.1 in
          let J : w.0 < length order = omega (arith, W, L) in
          let f : get_or nexts (get_or order w.0 0) 0 ≡ get_or nexts (get_or order i 0) 0 = ap (λ k. get_or nexts k 0) (h.kept w.0 w.1) ∙ w.2 ∙ sym (h.kept p l) ∙ e ∙ sym (last_to i q) in
          let same = one_before w.0 i J (omega arith) f in
          omega (arith, same, W, q, more)

      not_after : (p i : ℕ) → length old ≤ p → p + 1 < length order → get_or order (p + 1) 0 ≡ d → i + 1 ≡ length order → ⊥
      not_after p i l m e q = let same = one_before p i (omega arith) (omega arith) (h.along p l m ∙ e ∙ sym (last_to i q)) in omega arith

      after_by : (p q i : ℕ) → p ≡ q → length old < p → p < length order → get_or order p 0 ≡ d → i + 1 ≡ length order → ⊥
      after_by p zero i e l m f g = omega arith
      after_by p (suc q) i e l m f g = (let r : p ≡ q + 1 = omega arith in not_after q i (omega arith) (omega arith) (ap (λ k. get_or order k 0) (sym r) ∙ f) g)

      comes_back : (p i : ℕ) → p < length order → get_or order p 0 ≡ d → i + 1 ≡ length order → d ≡ get_or order (length old) 0
      comes_back p i l e q = elim (cases_lt p (length old)) [
        | inl a ↦ absurd (not_before p i a e q)
        | inr a ↦ elim (cases_lt (length old) p) [
          | inl b ↦ absurd (after_by p p i refl b l e q)
          | inr b ↦ (let r : length old ≡ p = omega arith in sym e ∙ ap (λ k. get_or order k 0) (sym r))
        ]
      ]

    ended : Stands nexts first old order places d → IsRingAdded nexts first old order places
    ended (begun a b c) = absurd (met c)
    ended (onward a b f) =
        let p = h.placed.found d h.within met in
        record {
          placed = h.placed;
          longer = a;
          kept = h.kept;
          along = h.along;
          closed = λ i q. f i q ∙ comes_back a f (get_or places d 0) i p.0 p.1 q;
          met = λ q. (let t = h.placed.told (length old) a in let u = ap (λ k. get_or places k 0) b in let r = h.placed.rest in absurd (omega arith));
        }

    pub finish : IsRingAdded nexts first old order places
    finish = ended h.stands
