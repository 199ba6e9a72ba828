-- Directions in the four ways, and the exact order of directions.
use Rattle.std.proofs.Common.{◌≡◌, ℕ, suc, Bool, true, false, ◌<◌, arith, refl, sym, ap, ◌∙◌, inl, inr, ◌⊎◌, [], ◌∷◌, Ordering, Less, Equal, Greater}
use Rattle.std.specs.Prelude.{ℤ, pos, ◌+ℤ◌, ◌-ℤ◌, ◌*ℤ◌, ◌<ℤ◌, ◌≤ℤ◌, ◌&&◌, ◌||◌, ◌==◌}
use Rattle.std.specs.Ordering.{int_cmp, nat_cmp, is_lt, is_gt, ordering_then, MatchOrdering}
use Rattle.std.proofs.lemmas.Cmp.{ranked}
use Rattle.std.proofs.lemmas.Bool.{or_left, or_from, and_left, lt-ltb, le-ltb, eq-eqb, ne_eqb}
use Rattle.std.proofs.lemmas.Int.{ints, by_lt_z}
use lib.Dec.{ltb}
use lib.Signed.{lt_z}
use Rattle.integers.proofs.Reify.{ring, sides}
use Rattle.integers.proofs.Signs.{mul_pos, more_right}
use Rattle.exact_plane.specs.Direction.{Direction, IsOneDirection, turn, along, last_quarter, last_place, next_cmp}
use Rattle.exact_plane.proofs.Directions.{square_nonneg}
use Rattle.edge_predicates.proofs.Sides.{less_is, greater_is}
use Rattle.slab_faces.proofs.Ints.{same_sign}
use Rattle.rotation_order.specs.Directions.{quarter_by, quarter, direction_before, straight_down}
use Rattle.rotation_order.proofs.Factors.{lt_turned, zero_between, same_above}

-- ---- the place of a direction from straight down is its quarter
turn_down : (a : Direction) → turn straight_down a ≡ a.x
turn_down a = ring (a.x ∷ a.y ∷ []) (search sides depth 40 fits 20000) tt

along_down : (a : Direction) → along straight_down a ≡ pos 0 -ℤ a.y
along_down a = ring (a.x ∷ a.y ∷ []) (search sides depth 40 fits 20000) tt

by_orders : (o p : Ordering) → last_quarter o p ≡ suc (quarter_by (is_lt o) (is_gt o) (is_gt p))
by_orders Less p = refl
by_orders Greater p = refl
by_orders Equal Less = refl
by_orders Equal Equal = refl
by_orders Equal Greater = refl

place_is : (a : Direction) → last_place straight_down a ≡ suc (quarter a)
place_is a =
    (λ i. last_quarter (int_cmp (turn_down a i) (pos 0)) (int_cmp (along_down a i) (pos 0)))
    ∙ by_orders (int_cmp a.x (pos 0)) (int_cmp (pos 0 -ℤ a.y) (pos 0))
    ∙ (λ i. suc (quarter_by (less_is a.x (pos 0) i) (greater_is a.x (pos 0) i) ((greater_is (pos 0 -ℤ a.y) (pos 0) ∙ sym (lt_turned a.y (pos 0 -ℤ a.y) refl)) i)))

-- ---- an order by places, then by turns
then_is : (m n : ℕ) (o t : Ordering) → MatchOrdering o (suc m < suc n) (suc m ≡ suc n) (suc n < suc m) → is_lt (ordering_then o t) ≡ (ltb m n || ((m == n) && is_lt t))
then_is m n Less t h = sym (or_left (ltb m n) ((m == n) && is_lt t) (lt-ltb m n (omega arith)))
then_is m n Equal t h = λ i. sym (le-ltb m n (omega arith)) i || (sym (eq-eqb m n (omega arith)) i && is_lt t)
then_is m n Greater t h = sym (or_from (ltb m n) ((m == n) && is_lt t) (le-ltb m n (omega arith)) (and_left (m == n) (is_lt t) (ne_eqb m n (λ e. omega arith))))

pub turn_order : (a b : Direction) → direction_before a b ≡ is_lt (next_cmp straight_down a b)
turn_order a b =
    (λ i. ltb (quarter a) (quarter b) || ((quarter a == quarter b) && sym (less_is (turn a b) (pos 0)) i))
    ∙ sym (then_is (quarter a) (quarter b) (nat_cmp (suc (quarter a)) (suc (quarter b))) (int_cmp (turn a b) (pos 0)) (ranked (suc (quarter a)) (suc (quarter b)) (nat_cmp (suc (quarter a)) (suc (quarter b))) refl))
    ∙ (λ i. is_lt (ordering_then (nat_cmp (sym (place_is a) i) (sym (place_is b) i)) (int_cmp (turn a b) (pos 0))))

-- ---- some length
pub squares : (a b : Direction) → turn a b *ℤ turn a b +ℤ along a b *ℤ along a b ≡ (a.x *ℤ a.x +ℤ a.y *ℤ a.y) *ℤ (b.x *ℤ b.x +ℤ b.y *ℤ b.y)
squares a b = ring (a.x ∷ a.y ∷ b.x ∷ b.y ∷ []) (search sides depth 40 fits 20000) tt

sum_up : (s t : ℤ) → pos 0 ≤ℤ s → pos 0 ≤ℤ t → pos 0 ≤ℤ (s +ℤ t)
sum_up s t h k = omega (arith, ints)

pub positive_factor : (n m s : ℤ) → pos 0 ≤ℤ n → pos 0 <ℤ s → s ≡ n *ℤ m → pos 0 <ℤ n
positive_factor n m s h k e =
    by_lt_z (pos 0) n (λ p. p)
    (λ p. let z : n ≡ pos 0 = omega (arith, ints) in
    let y : n *ℤ m ≡ pos 0 = ap (λ x. x *ℤ m) z ∙ ring (m ∷ []) (search sides depth 40 fits 20000) tt in
    absurd (omega (arith, ints)))

pub length_up : (a : Direction) → pos 0 ≤ℤ (a.x *ℤ a.x +ℤ a.y *ℤ a.y)
length_up a = sum_up (a.x *ℤ a.x) (a.y *ℤ a.y) (square_nonneg a.x) (square_nonneg a.y)

pub along_way : (a b : Direction) → pos 0 <ℤ along a b → pos 0 <ℤ (a.x *ℤ a.x +ℤ a.y *ℤ a.y)
along_way a b h =
    positive_factor (a.x *ℤ a.x +ℤ a.y *ℤ a.y) (b.x *ℤ b.x +ℤ b.y *ℤ b.y) (turn a b *ℤ turn a b +ℤ along a b *ℤ along a b) (length_up a)
    (more_right (turn a b *ℤ turn a b) (along a b *ℤ along a b) (square_nonneg (turn a b)) (mul_pos h h)) (squares a b)

-- ---- one direction goes one way
scaled_x : (a b : Direction) → turn a b ≡ pos 0 → along a b *ℤ a.x ≡ (a.x *ℤ a.x +ℤ a.y *ℤ a.y) *ℤ b.x
scaled_x a b e =
    ring (a.x ∷ a.y ∷ b.x ∷ b.y ∷ []) (search sides depth 40 fits 20000) tt
    ∙ (λ i. (a.x *ℤ a.x +ℤ a.y *ℤ a.y) *ℤ b.x +ℤ e i *ℤ a.y)
    ∙ ring (a.x ∷ a.y ∷ b.x ∷ []) (search sides depth 40 fits 20000) tt

scaled_y : (a b : Direction) → turn a b ≡ pos 0 → along a b *ℤ a.y ≡ (a.x *ℤ a.x +ℤ a.y *ℤ a.y) *ℤ b.y
scaled_y a b e =
    ring (a.x ∷ a.y ∷ b.x ∷ b.y ∷ []) (search sides depth 40 fits 20000) tt
    ∙ (λ i. (a.x *ℤ a.x +ℤ a.y *ℤ a.y) *ℤ b.y -ℤ e i *ℤ a.x)
    ∙ ring (a.x ∷ a.y ∷ b.y ∷ []) (search sides depth 40 fits 20000) tt

pub one_quarter : (a b : Direction) → IsOneDirection a b → quarter a ≡ quarter b
one_quarter a b h =
    let N : pos 0 <ℤ (a.x *ℤ a.x +ℤ a.y *ℤ a.y) = along_way a b h.forward in
    let ex = scaled_x a b h.straight in
    let ey = scaled_y a b h.straight in
    let l = same_sign (along a b) a.x (a.x *ℤ a.x +ℤ a.y *ℤ a.y) b.x h.forward N ex in
    let r = same_above (along a b) a.x (a.x *ℤ a.x +ℤ a.y *ℤ a.y) b.x h.forward N ex in
    let d = same_sign (along a b) a.y (a.x *ℤ a.x +ℤ a.y *ℤ a.y) b.y h.forward N ey in
    λ i. quarter_by (l i) (r i) (d i)

-- ---- a direction straight up or straight down
flat_by : (l r d : Bool) → (quarter_by l r d ≡ 1) ⊎ (quarter_by l r d ≡ 3) → (l ≡ false) × (r ≡ false)
flat_by true r d (inl e) = absurd (omega arith)
flat_by true r d (inr e) = absurd (omega arith)
flat_by false true d (inl e) = absurd (omega arith)
flat_by false true d (inr e) = absurd (omega arith)
flat_by false false d e = (refl, refl)

pub no_width : (a : Direction) → (quarter a ≡ 1) ⊎ (quarter a ≡ 3) → a.x ≡ pos 0
no_width a e = let p = flat_by (lt_z a.x (pos 0)) (lt_z (pos 0) a.x) (lt_z a.y (pos 0)) e in zero_between a.x p.0 p.1

pub no_turn : (a b : Direction) → a.x ≡ pos 0 → b.x ≡ pos 0 → turn a b ≡ pos 0
no_turn a b e f = (λ i. e i *ℤ b.y -ℤ a.y *ℤ f i) ∙ ring (a.y ∷ b.y ∷ []) (search sides depth 40 fits 20000) tt
