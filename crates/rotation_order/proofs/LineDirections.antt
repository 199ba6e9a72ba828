-- The order of directions from straight down: total among all but the zero direction, with one direction for ties.
use Rattle.std.proofs.Common.{◌≡◌, Bool, true, false, arith, refl, sym, ap, ◌∙◌, ◌⊎◌, ◌<◌, inl, inr, [], ◌∷◌, Ordering, Less, Equal, Greater}
use Rattle.std.specs.Prelude.{ℤ, pos, ◌+ℤ◌, ◌-ℤ◌, ◌*ℤ◌, ◌<ℤ◌, ◌&&◌, ◌==◌, neg_ℤ}
use Rattle.std.specs.Ordering.{is_lt, is_gt, ordering_reverse}
use Rattle.std.specs.Cmp.{IsTotalOrder}
use Rattle.std.proofs.lemmas.Bool.{and_parts, or_left, or_from, or_cases, false≢true, false_from_ne_true, lt-ltb, le-ltb, ltb-true, eqb-true}
use Rattle.std.proofs.lemmas.Int.{ints}
use lib.Dec.{ltb}
use lib.Signed.{lt_z}
use Rattle.integers.proofs.Reify.{ring, sides}
use Rattle.integers.proofs.Signs.{mul_pos, more}
use Rattle.integers.proofs.Tests.{is_less, lt_is}
use Rattle.exact_plane.specs.Direction.{Direction, IsOneDirection, turn, along, next_cmp}
use Rattle.exact_plane.proofs.Directions.{square_nonneg}
use Rattle.exact_plane.proofs.TurnLaws.{Proper, next_total}
use Rattle.rotation_order.specs.Directions.{quarter, direction_before, straight_down}
use Rattle.rotation_order.proofs.Quarters.{squares, positive_factor, length_up, along_way, turn_order, one_quarter}

-- it isn't the zero direction
abbrev pub IsWay : Direction → Type 0
IsWay d = pos 0 <ℤ (d.x *ℤ d.x +ℤ d.y *ℤ d.y)

-- ---- some length
pub square_up : (z : ℤ) → z <ℤ pos 0 → pos 0 <ℤ (z *ℤ z)
square_up z h =
    let k : pos 0 <ℤ neg_ℤ z = omega (arith, ints) in
    let m : pos 0 <ℤ (neg_ℤ z *ℤ neg_ℤ z) = mul_pos k k in
    let e : neg_ℤ z *ℤ neg_ℤ z ≡ z *ℤ z = ring (z ∷ []) (search sides depth 40 fits 20000) tt in
    omega (arith, ints)

turning_way : (a b : Direction) → turn a b <ℤ pos 0 → IsWay a
turning_way a b h =
    positive_factor (a.x *ℤ a.x +ℤ a.y *ℤ a.y) (b.x *ℤ b.x +ℤ b.y *ℤ b.y) (turn a b *ℤ turn a b +ℤ along a b *ℤ along a b) (length_up a)
    (more (turn a b *ℤ turn a b) (along a b *ℤ along a b) (square_up (turn a b) h) (square_nonneg (along a b))) (squares a b)

-- ---- the exact order, among ways
abbrev proper : (a : Direction) → IsWay a → Proper
proper a h = record { direction = a; some = h }

down_way : IsWay straight_down
down_way = omega (arith, ints)

total : IsTotalOrder (λ (a b : Proper). next_cmp straight_down a.direction b.direction)
total = next_total (proper straight_down down_way)

equal_if : (o p : Ordering) → o ≡ ordering_reverse p → is_lt o ≡ false → is_lt p ≡ false → o ≡ Equal
equal_if Less p e h k = absurd (false≢true (sym h))
equal_if Equal p e h k = refl
equal_if Greater Less e h k = absurd (false≢true (sym k))
equal_if Greater Equal e h k = absurd (false≢true (sym (ap is_gt e)))
equal_if Greater Greater e h k = absurd (false≢true (sym (ap is_gt e)))

less_out : (a b : Direction) → direction_before a b ≡ true → next_cmp straight_down a b ≡ Less
less_out a b h = is_less (next_cmp straight_down a b) (sym (turn_order a b) ∙ h)

-- neither before the other
pub neither : (a b : Direction) → IsWay a → IsWay b → direction_before a b ≡ false → direction_before b a ≡ false → next_cmp straight_down a b ≡ Equal
neither a b A B h k =
    equal_if (next_cmp straight_down a b) (next_cmp straight_down b a) (total.antisymm (proper a A) (proper b B)) (sym (turn_order a b) ∙ h) (sym (turn_order b a) ∙ k)

on_ways : (a b c : Direction) → IsWay a → IsWay b → IsWay c → direction_before a b ≡ true → direction_before b c ≡ true → direction_before a c ≡ true
on_ways a b c A B C h k = turn_order a c ∙ ap is_lt (total.trans (proper a A) (proper b B) (proper c C) (less_out a b h) (less_out b c k))

pub quarters : (a b : Direction) → direction_before a b ≡ true → (ltb (quarter a) (quarter b) ≡ true) ⊎ ((quarter a ≡ quarter b) × (turn a b <ℤ pos 0))
quarters a b h =
    elim (or_cases (ltb (quarter a) (quarter b)) _ h) [
      | inl l ↦ inl l
      | inr r ↦ let p = and_parts (quarter a == quarter b) (lt_z (turn a b) (pos 0)) r in inr (eqb-true (quarter a) (quarter b) p.0, lt_is (turn a b) (pos 0) p.1)
    ]

-- the first of the three may be any
pub on : (a b c : Direction) → IsWay b → IsWay c → direction_before a b ≡ true → direction_before b c ≡ true → direction_before a c ≡ true
on a b c B C h k =
    elim (quarters a b h) [
      | inl l ↦ or_left (ltb (quarter a) (quarter c)) _ (lt-ltb (quarter a) (quarter c) (past (ltb-true (quarter a) (quarter b) l) (quarters b c k)))
      | inr r ↦ on_ways a b c (turning_way a b r.1) B C h k
    ]
  where
    past : quarter a < quarter b → (ltb (quarter b) (quarter c) ≡ true) ⊎ ((quarter b ≡ quarter c) × (turn b c <ℤ pos 0)) → quarter a < quarter c
    past l (inl m) = let n = ltb-true (quarter b) (quarter c) m in omega arith
    past l (inr m) = let n = m.0 in omega arith

opposite_turns : (a b : Direction) → turn a b <ℤ pos 0 → turn b a <ℤ pos 0 → ⊥
opposite_turns a b h k =
    let e : turn b a ≡ pos 0 -ℤ turn a b = ring (a.x ∷ a.y ∷ b.x ∷ b.y ∷ []) (search sides depth 40 fits 20000) tt in
    both_down (turn a b) (turn b a) e h k
  where
    both_down : (s t : ℤ) → t ≡ pos 0 -ℤ s → s <ℤ pos 0 → t <ℤ pos 0 → ⊥
    both_down s t e h k = omega (arith, ints)

pub asym : (a b : Direction) → direction_before a b ≡ true → direction_before b a ≡ true → ⊥
asym a b h k = met (quarters a b h) (quarters b a k)
  where
    met : (ltb (quarter a) (quarter b) ≡ true) ⊎ ((quarter a ≡ quarter b) × (turn a b <ℤ pos 0)) → (ltb (quarter b) (quarter a) ≡ true) ⊎ ((quarter b ≡ quarter a) × (turn b a <ℤ pos 0)) → ⊥
    met (inl l) (inl m) = let p = ltb-true (quarter a) (quarter b) l in let q = ltb-true (quarter b) (quarter a) m in omega arith
    met (inl l) (inr m) = let p = ltb-true (quarter a) (quarter b) l in let q = m.0 in omega arith
    met (inr l) (inl m) = let p = l.0 in let q = ltb-true (quarter b) (quarter a) m in omega arith
    met (inr l) (inr m) = opposite_turns a b l.1 m.1

pub itself : (a : Direction) → direction_before a a ≡ false
itself a = false_from_ne_true (direction_before a a) (λ h. asym a a h h)

-- ---- one direction stands in one place
turned_round : (a b : Direction) → IsOneDirection a b → IsOneDirection b a
turned_round a b h = record {
  straight = turn_back (turn a b) (turn b a) (ring (a.x ∷ a.y ∷ b.x ∷ b.y ∷ []) (search sides depth 40 fits 20000) tt) h.straight;
  forward = along_back (along a b) (along b a) (ring (a.x ∷ a.y ∷ b.x ∷ b.y ∷ []) (search sides depth 40 fits 20000) tt) h.forward;
}
  where
    turn_back : (s t : ℤ) → t ≡ pos 0 -ℤ s → s ≡ pos 0 → t ≡ pos 0
    turn_back s t e h = omega (arith, ints)

    along_back : (s t : ℤ) → t ≡ s → pos 0 <ℤ s → pos 0 <ℤ t
    along_back s t e h = omega (arith, ints)

no_turn : (x : Bool) (t : ℤ) → t ≡ pos 0 → (x && lt_z t (pos 0)) ≡ false
no_turn true t e = ap (λ u. lt_z u (pos 0)) e
no_turn false t e = refl

not_before : (a b : Direction) → IsOneDirection a b → direction_before a b ≡ false
not_before a b h =
    let q = one_quarter a b h in
    or_from (ltb (quarter a) (quarter b)) _ (le-ltb (quarter a) (quarter b) (omega arith)) (no_turn (quarter a == quarter b) (turn a b) h.straight)

module _ (a b c : Direction) (h : IsOneDirection a b) (C : IsWay c) where
  abbrev A : IsWay a
  A = along_way a b h.forward

  abbrev B : IsWay b
  B = let k = turned_round a b h in along_way b a k.forward

  ties : next_cmp straight_down a b ≡ Equal
  ties = neither a b A B (not_before a b h) (not_before b a (turned_round a b h))

  one_left : next_cmp straight_down a c ≡ next_cmp straight_down b c
  one_left = total.congr (proper a A) (proper b B) (proper c C) ties

  pub alike_left : direction_before a c ≡ direction_before b c
  alike_left = turn_order a c ∙ ap is_lt one_left ∙ sym (turn_order b c)

  pub alike_right : direction_before c a ≡ direction_before c b
  alike_right =
      turn_order c a ∙ ap is_lt (total.antisymm (proper c C) (proper a A) ∙ ap ordering_reverse one_left ∙ sym (total.antisymm (proper c C) (proper b B))) ∙ sym (turn_order c b)
