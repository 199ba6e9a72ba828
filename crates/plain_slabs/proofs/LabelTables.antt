-- Tables of numbers in which links meet. `Sound` is what every meeting keeps: each entry is of its number's class and not
-- above it. Where the table is sound and agrees on each link, it has the least of each class.
use Rattle.std.proofs.Common.{◌≡◌, ℕ, ◌+◌, ◌<◌, ◌≤◌, min, Bool, true, false, not, List, [], ◌∷◌, length, get_or, set, take, reverse, sum, fold, refl, sym, ap, ◌∙◌, subst, arith, ◌⊎◌, inl, inr, eqb, MatchBool}
use Rattle.std.specs.List.{All, AllByRecursion, range_with_len}
use Rattle.std.proofs.lemmas.Bool.{cases_lt, cases_eq, eqb-true, not-false, eq-eqb}
use Rattle.std.proofs.lemmas.List.{length-set, get_or-set_same, get_or-set_other, set-get_or}
use Rattle.std.proofs.lemmas.List.Sums.{sum_by-set, fold_more}
use Rattle.std.proofs.lemmas.List.Elements.{All-contains, All-from_recursion, All-more}
use Rattle.std.proofs.lemmas.List.Sorted.{Contains-permutation, IsPermutation-sym, IsPermutation-reverse}
use Rattle.std.proofs.lemmas.List.FromFn.{get_or-range_with_len}
use Rattle.slab_laws.specs.declared.classes.Link.{Link}
use Rattle.slab_faces.proofs.Member.{Member, member_in, in_member}
use Rattle.slab_faces.proofs.ClassesLemmas.{along_link, connected}
use Rattle.dart_orbits.specs.LeastNumbers.{same_number, is_less}
use Rattle.plain_slabs.specs.MetNumbers.{AreBelow, AgreesOn, met}
use Rattle.dart_orbits.proofs.LeastTransport.{numbers_exact, least_number, least_number-le}

-- ---- members
pub all_of : {X : Type 0} (P : X → Type 0) (xs : List X) → ((x : X) → Member xs x → P x) → All P xs
all_of {X} P xs f = All-from_recursion P xs (each xs f)
  where
    each : (xs : List X) → ((x : X) → Member xs x → P x) → AllByRecursion P xs
    each [] f = tt
    each (x ∷ xs) f = (f x (inl refl), each xs (λ y m. f y (inr m)))

pub each_of : {X : Type 0} (P : X → Type 0) (xs : List X) → All P xs → (x : X) → Member xs x → P x
each_of P xs h x m = All-contains P xs x h (member_in xs x m)

pub from_reverse : {X : Type 0} (xs : List X) (x : X) → Member (reverse xs) x → Member xs x
from_reverse xs x m = in_member xs x (Contains-permutation _ _ x (IsPermutation-sym _ _ (IsPermutation-reverse xs)) (member_in (reverse xs) x m))

-- ---- one meeting
set_both : (t : List ℕ) (a b m k : ℕ) → a < length t → b < length t → (((k ≡ a) ⊎ (k ≡ b)) × (get_or (set (set t a m) b m) k 0 ≡ m)) ⊎ (get_or (set (set t a m) b m) k 0 ≡ get_or t k 0)
set_both t a b m k la lb =
    elim (cases_eq k b) [
      | inl e ↦ inl (inr e, ap (λ i. get_or (set (set t a m) b m) i 0) e ∙ get_or-set_same (set t a m) b m 0 (omega (arith, length-set t a m)))
      | inr n ↦ elim (cases_eq k a) [
        | inl e ↦ inl (inl e, get_or-set_other (set t a m) b k m 0 n ∙ ap (λ i. get_or (set t a m) i 0) e ∙ get_or-set_same t a m 0 la)
        | inr o ↦ inr (get_or-set_other (set t a m) b k m 0 n ∙ get_or-set_other t a k m 0 o)
      ]
    ]

pub length-met : (t : List ℕ) (l : Link ℕ) → length (met t l) ≡ length t
unfolding met
length-met t l =
    let m = min (get_or t l.one 0) (get_or t l.other 0) in
    length-set (set t l.one m) l.other m ∙ length-set t l.one m

sum_both : (t : List ℕ) (a b m : ℕ) → a < length t → b < length t → m ≡ min (get_or t a 0) (get_or t b 0) → (sum (set (set t a m) b m) ≤ sum t) × ((get_or t a 0 ≡ get_or t b 0 → ⊥) → sum (set (set t a m) b m) < sum t)
sum_both t a b m la lb e =
    let p : sum (set t a m) + get_or t a 0 ≡ sum t + m = sum_by-set (λ x. x) t a m 0 la in
    let q : sum (set (set t a m) b m) + get_or (set t a m) b 0 ≡ sum (set t a m) + m = sum_by-set (λ x. x) (set t a m) b m 0 (omega (arith, length-set t a m)) in
    elim (cases_eq b a) [
      | inl f ↦
          let r : get_or (set t a m) b 0 ≡ m = ap (λ i. get_or (set t a m) i 0) f ∙ get_or-set_same t a m 0 la in
          let s : get_or t b 0 ≡ get_or t a 0 = ap (λ i. get_or t i 0) f in
          (omega arith, λ n. absurd (n (sym s)))
      | inr n ↦
          let r : get_or (set t a m) b 0 ≡ get_or t b 0 = get_or-set_other t a b m 0 n in
          (omega arith, λ n. omega arith)
    ]

pub sum-met : (t : List ℕ) (l : Link ℕ) → l.one < length t → l.other < length t → sum (met t l) ≤ sum t
unfolding met
sum-met t l a b = (sum_both t l.one l.other _ a b refl).0

pub sum-met_differ : (t : List ℕ) (l : Link ℕ) → l.one < length t → l.other < length t → (AgreesOn t l → ⊥) → sum (met t l) < sum t
unfolding met
sum-met_differ t l a b n = (sum_both t l.one l.other _ a b refl).1 n

pub met_agreed : (t : List ℕ) (l : Link ℕ) → AgreesOn t l → met t l ≡ t
unfolding met
met_agreed t l e =
    let one : min (get_or t l.one 0) (get_or t l.other 0) ≡ get_or t l.one 0 = omega arith in
    let other : min (get_or t l.one 0) (get_or t l.other 0) ≡ get_or t l.other 0 = omega arith in
    ap (λ m. set (set t l.one m) l.other (min (get_or t l.one 0) (get_or t l.other 0))) one
    ∙ ap (λ s. set s l.other (min (get_or t l.one 0) (get_or t l.other 0))) (set-get_or t l.one 0)
    ∙ ap (λ m. set t l.other m) other
    ∙ set-get_or t l.other 0

-- ---- what each meeting keeps
pub record Sound (ls : List (Link ℕ)) (t : List ℕ) : Type 0 where
  pub low : (k : ℕ) → k < length t → get_or t k 0 ≤ k
  pub same : (k : ℕ) → k < length t → least_number ls (get_or t k 0) ≡ least_number ls k

lesser : (x y : ℕ) → (min x y ≡ x) ⊎ (min x y ≡ y)
lesser x y = elim (cases_lt x y) [ inl h ↦ inl (omega arith) | inr h ↦ inr (omega arith) ]

pub sound_met : (ls : List (Link ℕ)) (t : List ℕ) (l : Link ℕ) → Member ls l → l.one < length t → l.other < length t → Sound ls t → Sound ls (met t l)
unfolding met
sound_met ls t l i a b s = record { low = λ k h. low k (subst (λ n. k < n) size h); same = λ k h. same k (subst (λ n. k < n) size h) }
  where
    m : ℕ
    m = min (get_or t l.one 0) (get_or t l.other 0)

    size : length (set (set t l.one m) l.other m) ≡ length t
    size = length-set (set t l.one m) l.other m ∙ length-set t l.one m

    of_both : (x y : ℕ) → get_or t l.one 0 ≡ x → get_or t l.other 0 ≡ y → least_number ls (min x y) ≡ least_number ls l.one
    of_both x y e f =
        elim (lesser x y) [
          | inl g ↦ ap (least_number ls) (g ∙ sym e) ∙ s.same l.one a
          | inr g ↦ ap (least_number ls) (g ∙ sym f) ∙ s.same l.other b ∙ sym (along_link same_number is_less numbers_exact ls l i)
        ]

    class : least_number ls (min (get_or t l.one 0) (get_or t l.other 0)) ≡ least_number ls l.one
    class = of_both _ _ refl refl

    low : (k : ℕ) → k < length t → get_or (set (set t l.one m) l.other m) k 0 ≤ k
    low k h = let x = s.low l.one a in let y = s.low l.other b in let z = s.low k h in elim (set_both t l.one l.other m k a b) [ inl (inl e, f) ↦ omega arith | inl (inr e, f) ↦ omega arith | inr f ↦ omega arith ]

    same : (k : ℕ) → k < length t → least_number ls (get_or (set (set t l.one m) l.other m) k 0) ≡ least_number ls k
    same k h =
        elim (set_both t l.one l.other m k a b) [
          | inl (inl e, f) ↦ ap (least_number ls) f ∙ class ∙ ap (least_number ls) (sym e)
          | inl (inr e, f) ↦ ap (least_number ls) f ∙ class ∙ along_link same_number is_less numbers_exact ls l i ∙ ap (least_number ls) (sym e)
          | inr f ↦ ap (least_number ls) f ∙ s.same k h
        ]

-- ---- many meetings
pub length-fold_met : (ms : List (Link ℕ)) (t : List ℕ) → length (fold met t ms) ≡ length t
length-fold_met [] t = refl
length-fold_met (m ∷ ms) t = length-fold_met ms (met t m) ∙ length-met t m

pub sum-fold_met : (ms : List (Link ℕ)) (t : List ℕ) → ((l : Link ℕ) → Member ms l → (l.one < length t) × (l.other < length t)) → sum (fold met t ms) ≤ sum t
sum-fold_met [] t f = omega arith
sum-fold_met (m ∷ ms) t f =
    let h = f m (inl refl) in
    let one = sum-met t m h.0 h.1 in
    let rest = sum-fold_met ms (met t m) (λ l i. subst (λ n. (l.one < n) × (l.other < n)) (sym (length-met t m)) (f l (inr i))) in
    omega arith

pub sound_fold : (ls ms : List (Link ℕ)) (t : List ℕ) → ((l : Link ℕ) → Member ms l → Member ls l) → ((l : Link ℕ) → Member ls l → (l.one < length t) × (l.other < length t)) → Sound ls t → Sound ls (fold met t ms)
sound_fold ls [] t g f s = s
sound_fold ls (m ∷ ms) t g f s =
    let h = f m (g m (inl refl)) in
    sound_fold ls ms (met t m) (λ l i. g l (inr i)) (λ l i. subst (λ n. (l.one < n) × (l.other < n)) (sym (length-met t m)) (f l i)) (sound_met ls t m (g m (inl refl)) h.0 h.1 s)

pub agreed_fold : (ms : List (Link ℕ)) (t : List ℕ) → ((l : Link ℕ) → Member ms l → AgreesOn t l) → fold met t ms ≡ t
agreed_fold [] t f = refl
agreed_fold (m ∷ ms) t f =
    let e = met_agreed t m (f m (inl refl)) in
    ap (λ s. fold met s ms) e ∙ agreed_fold ms t (λ l i. f l (inr i))

-- ---- the first table and the last
pub sound_alone : (ls : List (Link ℕ)) (t : List ℕ) → t ≡ range_with_len 0 (length t) → Sound ls t
sound_alone ls t e = record { low = λ k h. let a = at k h in omega arith; same = λ k h. ap (least_number ls) (at k h) }
  where
    at : (k : ℕ) → k < length t → get_or t k 0 ≡ k
    at k h = let a = get_or-range_with_len 0 (length t) k 0 h in ap (λ s. get_or s k 0) e ∙ a ∙ (omega arith)

pub settled : (ls : List (Link ℕ)) (t : List ℕ) → Sound ls t → ((l : Link ℕ) → Member ls l → AgreesOn t l) → (k : ℕ) → k < length t → get_or t k 0 ≡ least_number ls k
settled ls t s agree k lt =
    let m : ℕ = least_number ls k in
    let within : m ≤ k = least_number-le ls k in
    let below : m < length t = omega arith in
    let one : get_or t k 0 ≡ get_or t m 0 = connected same_number is_less numbers_exact (λ i j. get_or t i 0 ≡ get_or t j 0) (record { itself = λ i. refl; back = λ i j e. sym e; on = λ i j l e f. e ∙ f }) ls agree k in
    let itself : least_number ls m ≡ m = sym (connected same_number is_less numbers_exact (λ i j. least_number ls i ≡ least_number ls j) (record { itself = λ i. refl; back = λ i j e. sym e; on = λ i j l e f. e ∙ f }) ls (λ l i. along_link same_number is_less numbers_exact ls l i) k) in
    let class : least_number ls (get_or t m 0) ≡ m = s.same m below ∙ itself in
    let not_less : least_number ls (get_or t m 0) ≤ get_or t m 0 = least_number-le ls (get_or t m 0) in
    let not_more : get_or t m 0 ≤ m = s.low m below in
    let same : get_or t m 0 ≡ m = omega arith in
    one ∙ same

-- ---- a pass, up to the link at i
pub record IsPassed (before : List ℕ) (links : List (Link ℕ)) (i : ℕ) (now : List ℕ) (moved : Bool) : Type 0 where
  pub table : now ≡ fold met before (take i links)
  pub changed : MatchBool moved (sum now < sum before) (All (AgreesOn before) (take i links))

module _ (before : List ℕ) (links : List (Link ℕ)) (i : ℕ) (d : Link ℕ) (now new : List ℕ) (at : i < length links) (inside : AreBelow (length before) links) (met_is : new ≡ met now (get_or links i d)) where
  next : now ≡ fold met before (take i links) → new ≡ fold met before (take (i + 1) links)
  next e = met_is ∙ ap (λ t. met t (get_or links i d)) e ∙ sym (fold_more met before links i d at)

  within : now ≡ fold met before (take i links) → ((get_or links i d).one < length now) × ((get_or links i d).other < length now)
  within e =
      let h : ((get_or links i d).one < length before) × ((get_or links i d).other < length before) = inside i d at in
      let n : length now ≡ length before = ap length e ∙ length-fold_met (take i links) before in
      (omega (arith, h.0), omega (arith, h.1))

  -- while all links agreed the table is as it was
  unmoved : now ≡ fold met before (take i links) → All (AgreesOn before) (take i links) → now ≡ before
  unmoved e h = e ∙ agreed_fold (take i links) before (each_of (AgreesOn before) (take i links) h)

  falls : (moved : Bool) → IsPassed before links i now moved → (AgreesOn now (get_or links i d) → ⊥) → sum new < sum before
  falls true p n = let h = within p.table in let k = sum-met now (get_or links i d) h.0 h.1 in let e = ap sum met_is in let b = p.changed in omega arith
  falls false p n = let h = within p.table in let k = sum-met_differ now (get_or links i d) h.0 h.1 n in let e = ap sum met_is in let u = ap sum (unmoved p.table p.changed) in omega arith

  pub one_differs : (moved : Bool) → IsPassed before links i now moved → (AgreesOn now (get_or links i d) → ⊥) → IsPassed before links (i + 1) new true
  one_differs moved p n = record { table = next p.table; changed = falls moved p n }

  stays : (moved : Bool) → IsPassed before links i now moved → AgreesOn now (get_or links i d) → MatchBool moved (sum new < sum before) (All (AgreesOn before) (take (i + 1) links))
  stays true p a = let h = within p.table in let k = sum-met now (get_or links i d) h.0 h.1 in let e = ap sum met_is in let b = p.changed in omega arith
  stays false p a = All-more (AgreesOn before) links i d at p.changed (subst (λ t. AgreesOn t (get_or links i d)) (unmoved p.table p.changed) a)

  pub one_agrees : (moved : Bool) → IsPassed before links i now moved → AgreesOn now (get_or links i d) → IsPassed before links (i + 1) new moved
  one_agrees moved p a = record { table = next p.table; changed = stays moved p a }

pub differs : (x y : ℕ) (r : Bool) → r ≡ true → r ≡ not (eqb x y) → x ≡ y → ⊥
differs x y r e f g = let h = eq-eqb x y g in cc

pub agrees : (x y : ℕ) (r : Bool) → r ≡ false → r ≡ not (eqb x y) → x ≡ y
agrees x y r e f = eqb-true x y (not-false (eqb x y) (sym f ∙ e))

-- ---- a round: a pass forwards and a pass backwards
module _ (ls : List (Link ℕ)) (old mid : List ℕ) (inside : AreBelow (length old) ls) (forwards : mid ≡ fold met old ls) where
  within_old : (l : Link ℕ) → Member ls l → (l.one < length old) × (l.other < length old)
  within_old l m = each_of (λ l. (l.one < length old) × (l.other < length old)) ls inside l m

  length_mid : length mid ≡ length old
  length_mid = ap length forwards ∙ length-fold_met ls old

  within_mid : (l : Link ℕ) → Member ls l → (l.one < length mid) × (l.other < length mid)
  within_mid l m = subst (λ n. (l.one < n) × (l.other < n)) (sym length_mid) (within_old l m)

  sound_mid : Sound ls old → Sound ls mid
  sound_mid s = subst (Sound ls) (sym forwards) (sound_fold ls ls old (λ l m. m) within_old s)

  pub sound_round : (new : List ℕ) → new ≡ fold met mid (reverse ls) → Sound ls old → Sound ls new
  sound_round new e s = subst (Sound ls) (sym e) (sound_fold ls (reverse ls) mid (λ l m. from_reverse ls l m) within_mid (sound_mid s))

  pub round_falls : (new : List ℕ) → new ≡ fold met mid (reverse ls) → sum mid < sum old → sum new < sum old
  round_falls new e h =
      let k = sum-fold_met (reverse ls) mid (λ l m. within_mid l (from_reverse ls l m)) in
      let f = ap sum e in
      omega arith

  pub settled_after : All (AgreesOn old) ls → Sound ls old → (k : ℕ) → k < length old → get_or mid k 0 ≡ least_number ls k
  settled_after a s k h =
      let agree = each_of (AgreesOn old) ls a in
      ap (λ t. get_or t k 0) (forwards ∙ agreed_fold ls old agree) ∙ settled ls old s agree k h
