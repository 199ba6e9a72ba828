-- Sets that spread from face to face, one dart more.
use Rattle.std.proofs.Common.{◌≡◌, ◌≢◌, ℕ, zero, suc, ◌+◌, ◌<◌, ◌≤◌, cond, arith, refl, sym, ap, ◌∙◌, subst, inl, inr, List, [], ◌∷◌, length, get_or}
use Rattle.std.specs.Prelude.{⊤, Option, None, Some, slice_set}
use Rattle.std.specs.List.{count_by}
use Rattle.std.proofs.lemmas.Bool.{cases_lt, cases_eq}
use Rattle.std.proofs.lemmas.List.{get_or-set_same, get_or-set_other, length-set, get_or_append_left, get_or_push, length-append}
use Rattle.std.proofs.lemmas.List.Sums.{sum_by-set, sum_by-cons}
use Rattle.polygon_sets.specs.declared.crossings.Crossing.{Crossing}
use Rattle.polygon_sets.specs.declared.crossings.Inside.{Inside}
use Rattle.polygon_sets.specs.declared.spread.Spread.{Spread}
use Rattle.polygon_sets.specs.Crossings.{neither, crossing_at, crossed}
use Rattle.polygon_sets.specs.Chains.{IsLastOf}
use Rattle.polygon_sets.specs.Spread.{set_at, held, IsKnown, AreSpread, reached_at, is_unknown, IsSpreading, IsCrossed, IsCrossedAt}

some_is : (x y : Inside) → Some x ≡ Some y → x ≡ y
some_is x y e = cc

never_some : (x : Inside) → None ≡ Some x → ⊥
never_some x e = cc

past : (xs : List (Option Inside)) (f : ℕ) → length xs ≤ f → set_at xs f ≡ None
past [] f h = refl
past (x ∷ xs) zero h = absurd (omega arith)
past (x ∷ xs) (suc f) h = past xs f (omega arith)

pub known_held : (o : Option Inside) (i : Inside) → o ≡ Some i → o ≡ Some (held o)
known_held None i e = absurd (never_some i e)
known_held (Some j) i e = refl

-- ---- all at the end
pub all_spread : (cs : List Crossing) (faces n : ℕ) (s : Spread) → length s.reached.items ≤ n → IsSpreading cs faces n s → AreSpread cs faces s.sets.items
all_spread cs faces n s l t = record {
  counted = t.counted;
  outside = t.outside;
  closed = λ k h w. (let x = t.listed (crossing_at cs k).left w in let y = x.1 in t.left x.0 (omega arith) k h (sym x.2));
  told = t.told;
}

-- ---- the first face
module _ (cs : List Crossing) (faces : ℕ) where
  count_none : (xs : List (Option Inside)) → ((f : ℕ) → f < length xs → set_at xs f ≡ None) → count_by is_unknown xs ≡ length xs
  count_none [] h = refl
  count_none (x ∷ xs) h =
      let a : cond {A = ℕ} (is_unknown x) 1 0 ≡ 1 = ap (λ o. cond {A = ℕ} (is_unknown o) 1 0) (h 0 (omega arith)) in
      let b = count_none xs (λ f l. h (suc f) (omega arith)) in
      let e : count_by is_unknown (x ∷ xs) ≡ cond {A = ℕ} (is_unknown x) 1 0 + count_by is_unknown xs = sum_by-cons (λ o. cond {A = ℕ} (is_unknown o) 1 0) x xs in
      omega arith

  pub first_reached : (old : List (Option Inside)) (s : Spread) → length old ≡ faces → ((f : ℕ) → f < length old → set_at old f ≡ None) → 0 < faces → s.sets.items ≡ slice_set old 0 (Some neither) → s.reached.items ≡ 0 ∷ [] → IsSpreading cs faces 0 s
  first_reached old s l none some put one =
      let at : set_at s.sets.items 0 ≡ Some neither = ap (λ xs. get_or xs 0 None) put ∙ get_or-set_same old 0 (Some neither) None (omega arith) in
      let other : (f : ℕ) → f ≢ 0 → (i : Inside) → set_at s.sets.items f ≡ Some i → ⊥ = λ f d i e. elim (cases_lt f (length old)) [
        | inl a ↦ never_some i (sym (none f a) ∙ sym (get_or-set_other old 0 f (Some neither) None d) ∙ sym (ap (λ xs. get_or xs f None) put) ∙ e)
        | inr a ↦ never_some i (sym (past old f a) ∙ sym (get_or-set_other old 0 f (Some neither) None d) ∙ sym (ap (λ xs. get_or xs f None) put) ∙ e)
      ] in
      let n : length s.reached.items ≡ 1 = ap length one in
      record {
        counted = ap length put ∙ length-set old 0 (Some neither) ∙ l;
        outside = (neither, at);
        told = λ truth w f i e. elim (cases_eq f 0) [
          | inl z ↦ some_is i (truth f) (sym e ∙ ap (set_at s.sets.items) z ∙ at ∙ ap (λ j. Some j) (sym w.outside ∙ ap truth (sym z)))
          | inr z ↦ absurd (other f z i e)
        ];
        listed = λ f k. elim (cases_eq f 0) [
          | inl z ↦ (0, omega arith, ap (λ xs. get_or xs 0 0) one ∙ sym z)
          | inr z ↦ absurd (other f z k.0 k.1)
        ];
        known = λ i h. (let z : i ≡ 0 = omega arith in (neither, ap (set_at s.sets.items) (ap (reached_at s) z ∙ ap (λ xs. get_or xs 0 0) one) ∙ at));
        left = λ i h. absurd (omega arith);
        rest =
            let c = count_none old none in
            let a = sum_by-set (λ o. cond {A = ℕ} (is_unknown o) 1 0) old 0 (Some neither) None (omega arith) in
            let b : cond {A = ℕ} (is_unknown (get_or old 0 None)) 1 0 ≡ 1 = ap (λ o. cond {A = ℕ} (is_unknown o) 1 0) (none 0 (omega arith)) in
            let d : count_by is_unknown s.sets.items ≡ count_by is_unknown (slice_set old 0 (Some neither)) = ap (count_by is_unknown) put in
            omega arith;
        upto = omega arith;
      }

-- ---- one dart is crossed
module _ (cs : List Crossing) (faces place : ℕ) (k : ℕ) (K : k < length cs) (inside : Inside) where
  abbrev c : Crossing
  c = crossing_at cs k

  pub record IsKept (old new : Spread) : Type 0 where
    spreading : IsSpreading cs faces place new
    sets : (f : ℕ) (i : Inside) → set_at old.sets.items f ≡ Some i → set_at new.sets.items f ≡ Some i
    reached : (i : ℕ) → i < length old.reached.items → reached_at new i ≡ reached_at old i
    longer : length old.reached.items ≤ length new.reached.items
    right : IsKnown new.sets.items c.right

  pub crosses : (old new : Spread) → IsSpreading cs faces place old → set_at old.sets.items c.left ≡ Some inside → c.right < faces → IsCrossed c inside old new → IsKept old new
  crosses old new t held within h = by (set_at old.sets.items c.right) refl h
    where
      by : (o : Option Inside) → set_at old.sets.items c.right ≡ o → IsCrossedAt o c inside old new → IsKept old new
      by (Some j) q e = record {
        spreading = subst (IsSpreading cs faces place) (sym e) t;
        sets = λ f i a. subst (λ s. set_at s.sets.items f ≡ Some i) (sym e) a;
        reached = λ i l. ap (λ s. reached_at s i) e;
        longer = let x = ap (λ (s : Spread). length s.reached.items) e in omega arith;
        right = (j, ap (λ s. set_at s.sets.items c.right) e ∙ q);
      }
      by None q e =
          let put = e.0 in
          let grown = e.1 in
          let r = c.right in
          let long : length new.reached.items ≡ length old.reached.items + 1 = ap length grown ∙ length-append old.reached.items (r ∷ []) in
          let at : set_at new.sets.items r ≡ Some (crossed c inside) = ap (λ xs. get_or xs r None) put ∙ get_or-set_same old.sets.items r (Some (crossed c inside)) None (let x = t.counted in omega arith) in
          let other : (f : ℕ) → f ≢ r → set_at new.sets.items f ≡ set_at old.sets.items f = λ f d. ap (λ xs. get_or xs f None) put ∙ get_or-set_other old.sets.items r f (Some (crossed c inside)) None d in
          let sets : (f : ℕ) (i : Inside) → set_at old.sets.items f ≡ Some i → set_at new.sets.items f ≡ Some i = λ f i a. elim (cases_eq f r) [
            | inl z ↦ absurd (never_some i (sym q ∙ ap (set_at old.sets.items) (sym z) ∙ a))
            | inr z ↦ other f z ∙ a
          ] in
          let still : (f : ℕ) → IsKnown old.sets.items f → IsKnown new.sets.items f = λ f w. (w.0, sets f w.0 w.1) in
          let front : (i : ℕ) → i < length old.reached.items → reached_at new i ≡ reached_at old i = λ i l. ap (λ xs. get_or xs i 0) grown ∙ get_or_append_left old.reached.items (r ∷ []) 0 i l in
          let end : reached_at new (length old.reached.items) ≡ r = ap (λ xs. get_or xs (length old.reached.items) 0) grown ∙ get_or_push old.reached.items r 0 (length old.reached.items) refl in
          record {
            spreading = record {
              counted = ap length put ∙ length-set old.sets.items r (Some (crossed c inside)) ∙ t.counted;
              outside = still 0 t.outside;
              told = λ truth w f i a. elim (cases_eq f r) [
                | inl z ↦ some_is i (truth f) (sym a ∙ ap (set_at new.sets.items) z ∙ at ∙ ap (λ j. Some j) (ap (crossed c) (t.told truth w c.left inside held) ∙ sym (w.across k K) ∙ ap truth (sym z)))
                | inr z ↦ t.told truth w f i (sym (other f z) ∙ a)
              ];
              listed = λ f w. elim (cases_eq f r) [
                | inl z ↦ (length old.reached.items, omega arith, end ∙ sym z)
                | inr z ↦ (let x = t.listed f (w.0, sym (other f z) ∙ w.1) in let y = x.1 in (x.0, omega arith, front x.0 y ∙ x.2))
              ];
              known = λ i l. elim (cases_lt i (length old.reached.items)) [
                | inl a ↦ subst (IsKnown new.sets.items) (sym (front i a)) (still (reached_at old i) (t.known i a))
                | inr a ↦ (let z : length old.reached.items ≡ i = omega arith in subst (λ j. IsKnown new.sets.items (reached_at new j)) z (subst (IsKnown new.sets.items) (sym end) (crossed c inside, at)))
              ];
              left = λ i l m n b. still (crossing_at cs m).right (t.left i l m n (b ∙ front i (let u = t.upto in omega arith)));
              rest =
                  let a = sum_by-set (λ o. cond {A = ℕ} (is_unknown o) 1 0) old.sets.items r (Some (crossed c inside)) None (let x = t.counted in omega arith) in
                  let b : cond {A = ℕ} (is_unknown (get_or old.sets.items r None)) 1 0 ≡ 1 = ap (λ o. cond {A = ℕ} (is_unknown o) 1 0) q in
                  let d : count_by is_unknown new.sets.items ≡ count_by is_unknown (slice_set old.sets.items r (Some (crossed c inside))) = ap (count_by is_unknown) put in
                  let u = t.rest in
                  omega arith;
              upto = let u = t.upto in omega arith;
            };
            sets = sets;
            reached = front;
            longer = omega arith;
            right = (crossed c inside, at);
          }

-- ---- along the chain of a face
-- the dart stands at the current one or before it
abbrev pub IsYet : Option ℕ → ℕ → Type 0
IsYet None k = ⊥
IsYet (Some j) k = k ≤ j

abbrev pub IsDartOf : List Crossing → ℕ → Option ℕ → Type 0
IsDartOf cs f None = ⊤
IsDartOf cs f (Some j) = (j < length cs) × ((crossing_at cs j).left ≡ f)

pub record IsChaining (cs : List Crossing) (faces place face : ℕ) (inside : Inside) (current : Option ℕ) (s : Spread) : Type 0 where
  pub spreading : IsSpreading cs faces place s
  pub among : place < length s.reached.items
  pub at : reached_at s place ≡ face
  pub held : set_at s.sets.items face ≡ Some inside
  pub dart : IsDartOf cs face current
  pub met : (k : ℕ) → k < length cs → (crossing_at cs k).left ≡ face → (IsYet current k → ⊥) → IsKnown s.sets.items (crossing_at cs k).right

module _ (cs : List Crossing) (faces place face : ℕ) (inside : Inside) where
  last_dart : (m : ℕ) (o : Option ℕ) → m ≤ length cs → IsLastOf cs face m o → IsDartOf cs face o
  last_dart m None l h = tt
  last_dart m (Some k) l h = (let a = h.0 in omega arith, h.1)

  last_yet : (m : ℕ) (o : Option ℕ) → IsLastOf cs face m o → (k : ℕ) → k < m → (crossing_at cs k).left ≡ face → IsYet o k
  last_yet m None h k l q = h k l q
  last_yet m (Some j) h k l q = elim (cases_lt j k) [
    | inl a ↦ absurd (h.2 k a l q)
    | inr a ↦ a
  ]

  pub enter : (o : Option ℕ) (s : Spread) → IsLastOf cs face (length cs) o → IsSpreading cs faces place s → place < length s.reached.items → face ≡ reached_at s place → inside ≡ held (set_at s.sets.items face) → IsChaining cs faces place face inside o s
  enter o s h t l e i =
      let w = t.known place l in
      record {
        spreading = t;
        among = l;
        at = sym e;
        held = known_held (set_at s.sets.items face) w.0 (ap (set_at s.sets.items) e ∙ w.1) ∙ ap (λ j. Some j) (sym i);
        dart = last_dart (length cs) o (omega arith) h;
        met = λ k a q no. absurd (no (last_yet (length cs) o h k a q));
      }

  pub leave : (s : Spread) → IsChaining cs faces place face inside None s → IsSpreading cs faces (place + 1) s
  leave s t = record {
    counted = t.spreading.counted;
    outside = t.spreading.outside;
    told = t.spreading.told;
    listed = t.spreading.listed;
    known = t.spreading.known;
    left = λ i l k a q. elim (cases_lt i place) [
      | inl b ↦ t.spreading.left i b k a q
      | inr b ↦ (let e : i ≡ place = omega arith in t.met k a (q ∙ ap (reached_at s) e ∙ t.at) (λ n. n))
    ];
    rest = t.spreading.rest;
    upto = let a = t.among in omega arith;
  }

  pub go_on : (j : ℕ) (next : Option ℕ) (old new : Spread) → IsChaining cs faces place face inside (Some j) old → (crossing_at cs j).right < faces → IsCrossed (crossing_at cs j) inside old new → IsLastOf cs (crossing_at cs j).left j next → IsChaining cs faces place face inside next new
  go_on j next old new t within crossed' h =
      let d = t.dart in
      let x = crosses cs faces place j d.0 inside old new t.spreading (ap (set_at old.sets.items) d.1 ∙ t.held) within crossed' in
      let h' : IsLastOf cs face j next = subst (λ f. IsLastOf cs f j next) d.1 h in
      record {
        spreading = x.spreading;
        among = let a = x.longer in let b = t.among in omega arith;
        at = x.reached place t.among ∙ t.at;
        held = x.sets face inside t.held;
        dart = last_dart j next (let a = d.0 in omega arith) h';
        met = λ k a q no. elim (cases_lt k j) [
          | inl b ↦ absurd (no (last_yet j next h' k b q))
          | inr b ↦ elim (cases_lt j k) [
            | inl e ↦ (let w = t.met k a q (λ y. let z : k ≤ j = y in absurd (omega arith)) in (w.0, x.sets (crossing_at cs k).right w.0 w.1))
            | inr e ↦ (let z : j ≡ k = omega arith in subst (λ i. IsKnown new.sets.items (crossing_at cs i).right) z x.right)
          ]
        ];
      }

pub face_within : (cs : List Crossing) (faces place i : ℕ) (s : Spread) → IsSpreading cs faces place s → i < length s.reached.items → reached_at s i < length s.sets.items
face_within cs faces place i s t l =
    let w = t.known i l in
    elim (cases_lt (reached_at s i) (length s.sets.items)) [
      | inl a ↦ a
      | inr a ↦ absurd (never_some w.0 (sym (past s.sets.items (reached_at s i) a) ∙ w.1))
    ]
