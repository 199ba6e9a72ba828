-- A ring more at the end.
use Rattle.std.proofs.Common.{◌≡◌, ◌≢◌, ℕ, zero, suc, ◌+◌, ◌<◌, ◌≤◌, arith, refl, sym, ap, ◌∙◌, subst, inl, inr, List, [], ◌∷◌, ◌++◌, length, get_or, take}
use Rattle.std.specs.Prelude.{◌==◌}
use Rattle.std.specs.List.{count_by}
use Rattle.std.proofs.lemmas.Bool.{cases_lt}
use Rattle.std.proofs.lemmas.List.{length-append, get_or_append_left, get_or_push, take_all}
use Rattle.std.proofs.lemmas.List.Sums.{count_by_more_no, count_by_more_yes}
use Rattle.integers.proofs.Tests.{same_number, other_number}
use Rattle.region_rings.specs.Cycles.{ring_start, ring_end, AreCut, IsAfter, along, back, AreCycles, AreClosed, IsRingAdded, AreWalked}

-- rings end before the later ones begin
ends_before : (n : ℕ) (ends : List ℕ) → AreCut n ends → (r m : ℕ) → r < m → m ≤ length ends → ring_end ends r ≤ ring_start ends m
ends_before n ends c r zero h l = absurd (omega arith)
ends_before n ends c r (suc m) h l = elim (cases_lt r m) [
  | inl a ↦ (let p = ends_before n ends c r m a (omega arith) in let q = c.some m (omega arith) in omega arith)
  | inr a ↦ (let e : r ≡ m = omega arith in let q = ap (ring_end ends) e in omega arith)
]

pub ends_within : (n : ℕ) (ends : List ℕ) → AreCut n ends → (r : ℕ) → r < length ends → ring_end ends r ≤ n
ends_within n ends c r l = let p = ends_before n ends c r (length ends) l (omega arith) in let w = c.whole in omega arith

-- both numbers are of the ring
pub inside_ring : (n : ℕ) (ends : List ℕ) → AreCut n ends → (r i j : ℕ) → IsAfter ends r i j → (i < n) × (j < n)
inside_ring n ends c r i j (along l f t e) = let w = ends_within n ends c r l in (omega arith, omega arith)
inside_ring n ends c r i j (back l f t e) = let w = ends_within n ends c r l in let s = c.some r l in (omega arith, omega arith)

module _ (nexts : List ℕ) (first : ℕ) (was places old new ends more : List ℕ) (w : AreWalked nexts first was old ends) (added : IsRingAdded nexts first old new places) (e : more ≡ ends ++ (length new ∷ [])) where
  grown : length more ≡ length ends + 1
  grown = ap length e ∙ length-append ends (length new ∷ [])

  kept_end : (r : ℕ) → r < length ends → ring_end more r ≡ ring_end ends r
  kept_end r l = ap (λ xs. get_or xs r 0) e ∙ get_or_append_left ends (length new ∷ []) 0 r l

  last_end : ring_end more (length ends) ≡ length new
  last_end = ap (λ xs. get_or xs (length ends) 0) e ∙ get_or_push ends (length new) 0 (length ends) refl

  kept_start : (r : ℕ) → r ≤ length ends → ring_start more r ≡ ring_start ends r
  kept_start zero l = refl
  kept_start (suc r) l = kept_end r (omega arith)

  last_start : ring_start more (length ends) ≡ length old
  last_start = kept_start (length ends) (omega arith) ∙ w.cut.whole

  cut_more : AreCut (length new) more
  cut_more = record {
    some = λ r l. elim (cases_lt r (length ends)) [
      | inl a ↦ (let p = kept_start r (omega arith) in let q = kept_end r a in let s = w.cut.some r a in omega (arith, p, q, s))
      | inr a ↦ (
          let g = grown in
          let q : length ends ≡ r = omega arith in
          subst (λ k. ring_start more k < ring_end more k) q (let p = last_start in let t = last_end in let u = added.longer in omega (arith, p, t, u)))
    ];
    whole = ap (ring_start more) (grown ∙ next (length ends)) ∙ last_end;
  }
    where
      next : (n : ℕ) → n + 1 ≡ suc n
      next n = omega arith

  old_follows : (r i j : ℕ) → IsAfter ends r i j → get_or nexts (get_or new i 0) 0 ≡ get_or new j 0
  old_follows r i j a =
      let b = inside_ring (length old) ends w.cut r i j a in
      ap (λ k. get_or nexts k 0) (added.kept i b.0) ∙ w.follows r i j a ∙ sym (added.kept j b.1)

  follows_more : (r i j : ℕ) → IsAfter more r i j → get_or nexts (get_or new i 0) 0 ≡ get_or new j 0
  follows_more r i j (along l f t u) = elim (cases_lt r (length ends)) [
    | inl a ↦ (let p = kept_start r (omega arith) in let q = kept_end r a in old_follows r i j (along a (omega (arith, p, f)) (omega (arith, q, t)) u))
    | inr a ↦ (
        let g = grown in
        let q : r ≡ length ends = omega arith in
        let s = ap (ring_start more) q ∙ last_start in
        let v = ap (ring_end more) q ∙ last_end in
        added.along i (omega (arith, s, f)) (omega (arith, v, t)) ∙ ap (λ k. get_or new k 0) (sym u))
  ]
  follows_more r i j (back l f t u) = elim (cases_lt r (length ends)) [
    | inl a ↦ (let p = kept_start r (omega arith) in let q = kept_end r a in old_follows r i j (back a (omega (arith, p, f)) (omega (arith, q, t)) (omega (arith, p, u))))
    | inr a ↦ (
        let g = grown in
        let q : r ≡ length ends = omega arith in
        let s = ap (ring_start more) q ∙ last_start in
        let v = ap (ring_end more) q ∙ last_end in
        added.closed i (omega (arith, v, t)) ∙ ap (λ k. get_or new k 0) (sym (u ∙ s)))
  ]

  closed_more : AreClosed nexts new
  closed_more i l = elim (cases_lt i (length old)) [
    | inl a ↦ (
        let c = w.closed i a in
        let n = added.longer in
        let J : c.0 < length old = c.1 in
        (c.0, omega (arith, J, n), ap (λ k. get_or nexts k 0) (added.kept c.0 c.1) ∙ c.2 ∙ sym (added.kept i a)))
    | inr a ↦ elim (cases_lt (length old) i) [
      | inl b ↦ before i i refl b l
      | inr b ↦ (let q : i ≡ length old = omega arith in final (length new) refl q)
    ]
  ]
    where
      before : (i k : ℕ) → i ≡ k → length old < i → i < length new → (j : ℕ) × (j < length new) × (get_or nexts (get_or new j 0) 0 ≡ get_or new i 0)
      before i zero q b l = absurd (omega arith)
      before i (suc k) q b l = (let r : k + 1 ≡ i = omega arith in (k, omega arith, added.along k (omega arith) (omega arith) ∙ ap (λ m. get_or new m 0) r))

      final : (n : ℕ) → length new ≡ n → i ≡ length old → (j : ℕ) × (j < length new) × (get_or nexts (get_or new j 0) 0 ≡ get_or new i 0)
      final zero q r = absurd (let u = added.longer in omega arith)
      final (suc k) q r = (k, omega arith, added.closed k (omega arith) ∙ ap (λ m. get_or new m 0) (sym r))

  -- a number that stood in the order stands there
  still : (k : ℕ) → k < length nexts → get_or was k 0 ≢ length nexts → get_or places k 0 ≢ length nexts
  still k l ne q =
      let f = w.placed.found k l ne in
      let n = added.longer in
      let F : get_or was k 0 < length old = f.0 in
      let t = added.placed.told (get_or was k 0) (omega (arith, F, n)) in
      let u : get_or places k 0 ≡ get_or was k 0 = ap (λ j. get_or places j 0) (sym (added.kept (get_or was k 0) f.0 ∙ f.1)) ∙ t in
      let r = added.placed.rest in
      absurd (omega (arith, q, u, F, n, r))

  pub walked_more : first < length nexts → AreWalked nexts (first + 1) places new more
  walked_more l = record {
    placed = added.placed;
    closed = closed_more;
    met = λ k m. elim (cases_lt k first) [
      | inl a ↦ still k (omega arith) (w.met k a)
      | inr a ↦ (let q : first ≡ k = omega arith in subst (λ j. get_or places j 0 ≢ length nexts) q added.met)
    ];
    cut = cut_more;
    follows = follows_more;
  }

pub walked_on : (nexts : List ℕ) (first : ℕ) (places order ends : List ℕ) → AreWalked nexts first places order ends → get_or places first 0 ≢ length nexts → AreWalked nexts (first + 1) places order ends
walked_on nexts first places order ends w m = record {
  placed = w.placed;
  closed = w.closed;
  met = λ k l. elim (cases_lt k first) [
    | inl a ↦ w.met k a
    | inr a ↦ (let q : first ≡ k = omega arith in subst (λ j. get_or places j 0 ≢ length nexts) q m)
  ];
  cut = w.cut;
  follows = w.follows;
}

-- ---- before all, and at the end
all_counted : (n : ℕ) (xs : List ℕ) → ((k : ℕ) → k < length xs → get_or xs k 0 ≡ n) → (i : ℕ) → i ≤ length xs → count_by (λ x. x == n) (take i xs) ≡ i
all_counted n xs f zero l = refl
all_counted n xs f (suc i) l =
    ap (λ m. count_by (λ x. x == n) (take m xs)) (next i) ∙ count_by_more_yes (λ x. x == n) xs i 0 (omega arith) (ap (λ x. x == n) (f i (omega arith)) ∙ same_number n) ∙ ap (λ m. m + 1) (all_counted n xs f i (omega arith)) ∙ sym (next i)
  where
    next : (n : ℕ) → suc n ≡ n + 1
    next n = omega arith

none_counted : (n : ℕ) (xs : List ℕ) → ((k : ℕ) → k < length xs → get_or xs k 0 ≢ n) → (i : ℕ) → i ≤ length xs → count_by (λ x. x == n) (take i xs) ≡ 0
none_counted n xs f zero l = refl
none_counted n xs f (suc i) l =
    ap (λ m. count_by (λ x. x == n) (take m xs)) (next i) ∙ count_by_more_no (λ x. x == n) xs i 0 (omega arith) (other_number (get_or xs i 0) n (f i (omega arith))) ∙ none_counted n xs f i (omega arith)
  where
    next : (n : ℕ) → suc n ≡ n + 1
    next n = omega arith

pub none_walked : (nexts places : List ℕ) → length places ≡ length nexts → ((k : ℕ) → k < length nexts → get_or places k 0 ≡ length nexts) → AreWalked nexts 0 places [] []
none_walked nexts places c f = record {
  placed = record {
    counted = c;
    rest = (
        let z = all_counted (length nexts) places (λ k m. f k (omega arith)) (length places) (omega arith) in
        let t : count_by (λ x. x == length nexts) places ≡ length places = ap (count_by (λ x. x == length nexts)) (sym (take_all (length places) places (omega arith))) ∙ z in
        omega arith);
    within = λ i l. absurd (omega arith);
    told = λ i l. absurd (omega arith);
    found = λ k l ne. absurd (ne (f k l));
  };
  closed = λ i l. absurd (omega arith);
  met = λ k l. absurd (omega arith);
  cut = record { some = λ r l. absurd (omega arith); whole = refl };
  follows = λ r i j a. none r i j a;
}
  where
    none : (r i j : ℕ) → IsAfter [] r i j → get_or nexts (get_or [] i 0) 0 ≡ get_or [] j 0
    none r i j (along l f t u) = absurd (omega arith)
    none r i j (back l f t u) = absurd (omega arith)

pub all_walked : (nexts : List ℕ) (first : ℕ) (places order ends : List ℕ) → length nexts ≤ first → AreWalked nexts first places order ends → AreCycles nexts order ends
all_walked nexts first places order ends l w =
    let c = w.placed.counted in
    let z = none_counted (length nexts) places (λ k m. w.met k (omega arith)) (length places) (omega arith) in
    let t : count_by (λ x. x == length nexts) places ≡ 0 = ap (count_by (λ x. x == length nexts)) (sym (take_all (length places) places (omega arith))) ∙ z in
    let r = w.placed.rest in
    record {
      counted = omega arith;
      within = w.placed.within;
      once = λ i j m n e. sym (w.placed.told i m) ∙ ap (λ k. get_or places k 0) e ∙ w.placed.told j n;
      all = λ k m. (let f = w.placed.found k m (w.met k (omega arith)) in (get_or places k 0, f.0, f.1));
      cut = w.cut;
      follows = w.follows;
    }
