-- The first dart out of a vertex, among darts by source.
use Rattle.std.proofs.Common.{◌≡◌, ℕ, zero, suc, ◌<◌, ◌≤◌, Bool, true, false, List, [], ◌∷◌, length, get_or, Some, None, refl, sym, ap, ◌∙◌, subst, arith}
use Rattle.std.specs.Prelude.{find, nat_lt, ◌==◌}
use Rattle.std.specs.List.{AllByRecursion}
use Rattle.std.specs.List.Sorted.{IsPartitionedBy, IsPartitionPoint}
use Rattle.std.specs.Option.{option_map}
use Rattle.std.proofs.lemmas.Bool.Decides.{nat_tests}
use Rattle.arr_text.specs.declared.darts.NumberedDart.{NumberedDart}
use Rattle.arr_text.specs.Numbers.{AreBySource, first_out}

-- ---- numbers
below_not : (m n : ℕ) → nat_lt m n ≡ true → (m == n) ≡ false
below_not m n h = grind (arith, nat_tests)

below_too : (k m n : ℕ) → k ≤ m → nat_lt m n ≡ true → nat_lt k n ≡ true
below_too k m n l h = grind (arith, nat_tests)

above_not : (k m n : ℕ) → nat_lt k n ≡ false → (k == n) ≡ false → k ≤ m → (m == n) ≡ false
above_not k m n b h l = grind (arith, nat_tests)

module _ (n : ℕ) where
  abbrev pub is_before : NumberedDart → Bool
  is_before k = nat_lt k.source n

  abbrev leaves : NumberedDart → Bool
  leaves k = k.source == n

  -- what is skipped
  found_at : (ks : List NumberedDart) (i : ℕ) (d : NumberedDart) → i < length ks → ((j : ℕ) → j < i → is_before (get_or ks j d) ≡ true) → leaves (get_or ks i d) ≡ true → find leaves ks ≡ Some (get_or ks i d)
  found_at [] i d l f h = absurd (omega arith)
  found_at (k ∷ ks) zero d l f h = rw h refl
  found_at (k ∷ ks) (suc i) d l f h = rw (below_not k.source n (f 0 (omega arith))) (found_at ks i d (omega arith) (λ j m. f (suc j) (omega arith)) h)

  none_found : (ks : List NumberedDart) → AllByRecursion (λ k. leaves k ≡ false) ks → find leaves ks ≡ None
  none_found [] a = refl
  none_found (k ∷ ks) a = rw a.0 (none_found ks a.1)

  -- a dart that isn't before the vertex and doesn't leave it comes after it, and so does what comes after
  behind : (k : NumberedDart) (ks : List NumberedDart) → is_before k ≡ false → leaves k ≡ false → AllByRecursion (λ m. k.source ≤ m.source) ks → AllByRecursion (λ m. leaves m ≡ false) ks
  behind k [] b h a = tt
  behind k (m ∷ ms) b h a = (above_not k.source m.source n b h a.0, behind k ms b h a.1)

  -- where the dart at the partition point doesn't leave the vertex, none does
  none_at : (ks : List NumberedDart) (i : ℕ) (d : NumberedDart) → AreBySource ks → i < length ks → ((j : ℕ) → j < i → is_before (get_or ks j d) ≡ true) → is_before (get_or ks i d) ≡ false → leaves (get_or ks i d) ≡ false → find leaves ks ≡ None
  none_at [] i d a l f b h = absurd (omega arith)
  none_at (k ∷ ks) zero d a l f b h = rw h (none_found ks (behind k ks b h a.0))
  none_at (k ∷ ks) (suc i) d a l f b h = rw (below_not k.source n (f 0 (omega arith))) (none_at ks i d a.1 (omega arith) (λ j m. f (suc j) (omega arith)) b h)

  none_before : (ks : List NumberedDart) → ((j : ℕ) (d : NumberedDart) → j < length ks → is_before (get_or ks j d) ≡ true) → find leaves ks ≡ None
  none_before [] f = refl
  none_before (k ∷ ks) f = rw (below_not k.source n (f 0 k (omega arith))) (none_before ks (λ j d l. f (suc j) d (omega arith)))

  -- ---- darts by source are parted
  at_each : (P : NumberedDart → Type 0) (ks : List NumberedDart) (j : ℕ) (d : NumberedDart) → AllByRecursion P ks → j < length ks → P (get_or ks j d)
  at_each P [] j d h lt = absurd (omega arith)
  at_each P (k ∷ ks) zero d h lt = h.0
  at_each P (k ∷ ks) (suc j) d h lt = at_each P ks j d h.1 (omega arith)

  pub parted : (ks : List NumberedDart) → AreBySource ks → IsPartitionedBy is_before ks
  parted [] a i j d le lt b = absurd (omega arith)
  parted (k ∷ ks) a zero zero d le lt b = b
  parted (k ∷ ks) a zero (suc j) d le lt b = below_too k.source (get_or ks j d).source n (at_each (λ m. k.source ≤ m.source) ks j d a.0 (omega arith)) b
  parted (k ∷ ks) a (suc i) zero d le lt b = absurd (omega arith)
  parted (k ∷ ks) a (suc i) (suc j) d le lt b = parted ks a.1 i j d (omega arith) (omega arith) b

  -- ---- what the search answers
  module _ (ks : List NumberedDart) (a : AreBySource ks) (i : ℕ) (cut : IsPartitionPoint (λ k. is_before k ≡ true) (λ k. is_before k ≡ false) ks i) where
    pub first_is : (d : NumberedDart) → i < length ks → d ≡ get_or ks i d → leaves d ≡ true → Some d.name ≡ first_out ks n
    first_is d l e h =
        let there : leaves (get_or ks i d) ≡ true = subst (λ (k : NumberedDart). leaves k ≡ true) e h in
        sym (ap (option_map (λ k. k.name)) (found_at ks i d l (λ j m. cut.0 j d (omega arith) m) there) ∙ ap (λ (k : NumberedDart). Some k.name) (sym e))

    pub first_is_none : (d : NumberedDart) → i < length ks → d ≡ get_or ks i d → leaves d ≡ false → None ≡ first_out ks n
    first_is_none d l e h =
        let other : leaves (get_or ks i d) ≡ false = subst (λ (k : NumberedDart). leaves k ≡ false) e h in
        sym (ap (option_map (λ k. k.name)) (none_at ks i d a l (λ j m. cut.0 j d (omega arith) m) (cut.1 i d (omega arith) l) other))

    pub first_is_past : length ks ≤ i → None ≡ first_out ks n
    first_is_past l = sym (ap (option_map (λ k. k.name)) (none_before ks (λ j d m. cut.0 j d (omega arith) (omega arith))))
