-- The clockwise orders of directions are total, and tell apart all but one direction.
use Rattle.std.proofs.Common.{◌≡◌, ℕ, [], ◌∷◌, ℤ, pos, ◌+ℤ◌, ◌-ℤ◌, ◌*ℤ◌, ◌<ℤ◌, neg_ℤ, refl, ap, sym, ◌∙◌, arith, Ordering, Less, Equal, Greater}
use Rattle.std.specs.Ordering.{int_cmp, nat_cmp, on, ordering_reverse, ordering_then}
use Rattle.std.specs.Cmp.{IsTotalOrder, on_total, nat_cmp_total, int_cmp_total}
use Rattle.std.proofs.lemmas.Cmp.{ranked}
use Rattle.std.proofs.lemmas.Int.{ints}
use Rattle.exact_plane.specs.Direction.{Direction, turn, along, quarter, last_quarter, turn_cmp, next_cmp}
use Rattle.integers.proofs.Reify.{ring, sides}
use Rattle.integers.proofs.Signs.{mul_pos, diff_pos, cancel_zero, below_by, sum_pos, same_using}
use Rattle.integers.proofs.Compare.{less_out, less_in, equal_out, greater_out, same_cmp}
use Rattle.integers.proofs.Classes.{within_total}

-- a direction that isn't 0
pub record Proper : Type 0 where
  pub direction : Direction
  pub some : pos 0 <ℤ (direction.x *ℤ direction.x +ℤ direction.y *ℤ direction.y)

abbrev cross : Proper → Proper → ℤ
cross a b = turn a.direction b.direction

abbrev dot : Proper → Proper → ℤ
dot a b = along a.direction b.direction

abbrev by_cross : Proper → Proper → Ordering
by_cross a b = int_cmp (cross a b) (pos 0)

back : (a b : Proper) → by_cross a b ≡ ordering_reverse (by_cross b a)
back a b = int_cmp_total.antisymm (cross a b) (pos 0) ∙ ap ordering_reverse (same_cmp (pos 0) (cross a b) (cross b a) (pos 0) {k = pos 1} {m = pos 1} (omega (arith, ints)) (omega (arith, ints)) (ring (a.direction.x ∷ a.direction.y ∷ b.direction.x ∷ b.direction.y ∷ []) (search sides depth 40 fits 20000) tt))

-- one side of the first direction
pub same_side : (o d o' d' : Ordering) → quarter o d ≡ quarter o' d' → o ≡ o'
same_side Less d Less d' e = refl
same_side Less d Equal Less e = absurd (omega arith)
same_side Less d Equal Equal e = absurd (omega arith)
same_side Less d Equal Greater e = absurd (omega arith)
same_side Less d Greater d' e = absurd (omega arith)
same_side Equal Less Less d' e = absurd (omega arith)
same_side Equal Equal Less d' e = absurd (omega arith)
same_side Equal Greater Less d' e = absurd (omega arith)
same_side Equal d Equal d' e = refl
same_side Equal Less Greater d' e = absurd (omega arith)
same_side Equal Equal Greater d' e = absurd (omega arith)
same_side Equal Greater Greater d' e = absurd (omega arith)
same_side Greater d Less d' e = absurd (omega arith)
same_side Greater d Equal Less e = absurd (omega arith)
same_side Greater d Equal Equal e = absurd (omega arith)
same_side Greater d Equal Greater e = absurd (omega arith)
same_side Greater d Greater d' e = refl

same_side_last : (o d o' d' : Ordering) → last_quarter o d ≡ last_quarter o' d' → o ≡ o'
same_side_last Less d Less d' e = refl
same_side_last Less d Equal Less e = absurd (omega arith)
same_side_last Less d Equal Equal e = absurd (omega arith)
same_side_last Less d Equal Greater e = absurd (omega arith)
same_side_last Less d Greater d' e = absurd (omega arith)
same_side_last Equal Less Less d' e = absurd (omega arith)
same_side_last Equal Equal Less d' e = absurd (omega arith)
same_side_last Equal Greater Less d' e = absurd (omega arith)
same_side_last Equal d Equal d' e = refl
same_side_last Equal Less Greater d' e = absurd (omega arith)
same_side_last Equal Equal Greater d' e = absurd (omega arith)
same_side_last Equal Greater Greater d' e = absurd (omega arith)
same_side_last Greater d Less d' e = absurd (omega arith)
same_side_last Greater d Equal Less e = absurd (omega arith)
same_side_last Greater d Equal Equal e = absurd (omega arith)
same_side_last Greater d Equal Greater e = absurd (omega arith)
same_side_last Greater d Greater d' e = refl

-- two directions on the line of f are on one line
flat : (f a b : Proper) → cross f a ≡ pos 0 → cross f b ≡ pos 0 → cross a b ≡ pos 0
flat f a b ea eb =
    cancel_zero f.some
    (ring (f.direction.x ∷ f.direction.y ∷ a.direction.x ∷ a.direction.y ∷ b.direction.x ∷ b.direction.y ∷ []) (search sides depth 40 fits 20000) tt
    ∙ (λ i. dot f a *ℤ eb i -ℤ dot f b *ℤ ea i)
    ∙ ring (f.direction.x ∷ f.direction.y ∷ a.direction.x ∷ a.direction.y ∷ b.direction.x ∷ b.direction.y ∷ []) (search sides depth 40 fits 20000) tt)

module _ (rank : Ordering → Ordering → ℕ) (same : (o d o' d' : Ordering) → rank o d ≡ rank o' d' → o ≡ o') (f : Proper) where
  abbrev place : Proper → ℕ
  place a = rank (int_cmp (cross f a) (pos 0)) (int_cmp (dot f a) (pos 0))

  one_side : (a b : Proper) → on place nat_cmp a b ≡ Equal → int_cmp (cross f a) (pos 0) ≡ int_cmp (cross f b) (pos 0)
  one_side a b e = same _ _ _ _ (ranked (place a) (place b) Equal (sym e))

  onward : (a b c : Proper) (o : Ordering) → int_cmp (cross f a) (pos 0) ≡ o → int_cmp (cross f b) (pos 0) ≡ o → int_cmp (cross f c) (pos 0) ≡ o → cross a b <ℤ pos 0 → cross b c <ℤ pos 0 → cross a c <ℤ pos 0
  onward a b c Less ea eb ec h k =
      below_by (diff_pos (less_out (cross f b) (pos 0) eb)) (sum_pos (mul_pos (diff_pos (less_out (cross f a) (pos 0) ea)) (diff_pos k)) (mul_pos (diff_pos (less_out (cross f c) (pos 0) ec)) (diff_pos h)))
      (ring (f.direction.x ∷ f.direction.y ∷ a.direction.x ∷ a.direction.y ∷ b.direction.x ∷ b.direction.y ∷ c.direction.x ∷ c.direction.y ∷ []) (search sides depth 40 fits 20000) tt)
  onward a b c Equal ea eb ec h k = let z = flat f a b (equal_out _ _ ea) (equal_out _ _ eb) in absurd (omega (arith, ints))
  onward a b c Greater ea eb ec h k =
      below_by (diff_pos (greater_out (cross f b) (pos 0) eb)) (sum_pos (mul_pos (diff_pos (greater_out (cross f a) (pos 0) ea)) (diff_pos k)) (mul_pos (diff_pos (greater_out (cross f c) (pos 0) ec)) (diff_pos h)))
      (ring (f.direction.x ∷ f.direction.y ∷ a.direction.x ∷ a.direction.y ∷ b.direction.x ∷ b.direction.y ∷ c.direction.x ∷ c.direction.y ∷ []) (search sides depth 40 fits 20000) tt)

  alike : (a b c : Proper) (o : Ordering) → int_cmp (cross f a) (pos 0) ≡ o → int_cmp (cross f b) (pos 0) ≡ o → int_cmp (cross f c) (pos 0) ≡ o → cross a b ≡ pos 0 → by_cross a c ≡ by_cross b c
  alike a b c Less ea eb ec z =
      same_cmp (cross a c) (pos 0) (cross b c) (pos 0) (diff_pos (less_out (cross f b) (pos 0) eb)) (diff_pos (less_out (cross f a) (pos 0) ea))
      (same_using _ _ (cross f c) _ _ z (ring (f.direction.x ∷ f.direction.y ∷ a.direction.x ∷ a.direction.y ∷ b.direction.x ∷ b.direction.y ∷ c.direction.x ∷ c.direction.y ∷ []) (search sides depth 40 fits 20000) tt))
  alike a b c Equal ea eb ec z =
      ap (λ t. int_cmp t (pos 0)) (flat f a c (equal_out _ _ ea) (equal_out _ _ ec) ∙ sym (flat f b c (equal_out _ _ eb) (equal_out _ _ ec)))
  alike a b c Greater ea eb ec z =
      same_cmp (cross a c) (pos 0) (cross b c) (pos 0) (diff_pos (greater_out (cross f b) (pos 0) eb)) (diff_pos (greater_out (cross f a) (pos 0) ea))
      (same_using _ _ (neg_ℤ (cross f c)) _ _ z (ring (f.direction.x ∷ f.direction.y ∷ a.direction.x ∷ a.direction.y ∷ b.direction.x ∷ b.direction.y ∷ c.direction.x ∷ c.direction.y ∷ []) (search sides depth 40 fits 20000) tt))

  ranked_total : IsTotalOrder (λ a b. ordering_then (nat_cmp (place a) (place b)) (by_cross a b))
  ranked_total = within_total (on_total place nat_cmp_total) (record {
    antisymm = λ a b e. back a b;
    trans = λ a b c e e' h k. less_in _ _ (onward a b c _ (one_side a b e) refl (sym (one_side b c e')) (less_out _ _ h) (less_out _ _ k));
    congr = λ a b c e e' h. alike a b c _ (one_side a b e) refl (sym (one_side b c e')) (equal_out _ _ h);
  })

-- the order with the first direction before all others
pub turn_total : (f : Proper) → IsTotalOrder (λ (a b : Proper). turn_cmp f.direction a.direction b.direction)
turn_total = ranked_total quarter same_side

-- and the order with the first direction after all others
pub next_total : (f : Proper) → IsTotalOrder (λ (a b : Proper). next_cmp f.direction a.direction b.direction)
next_total = ranked_total last_quarter same_side_last
