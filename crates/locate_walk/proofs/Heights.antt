-- An edge both ends of which are above a point, or below it; and one that is below another one by all ends.
use Rattle.std.proofs.Common.{◌≡◌, true, false, cond, arith, [], ◌∷◌, ℤ, pos, ◌+ℤ◌, ◌-ℤ◌, ◌*ℤ◌, ◌<ℤ◌, ◌≤ℤ◌, inl, inr, sym, ap, ◌∙◌, subst}
use Rattle.std.proofs.lemmas.Bool.{cases_Bool, false≢true}
use Rattle.std.proofs.lemmas.Int.{ints}
use Rattle.integers.proofs.Compare.{less_in, less_out}
use Rattle.integers.proofs.Reify.{ring, sides}
use Rattle.integers.proofs.Signs.{mul_pos, mul_nonneg, cancel_pos, sum_pos_l, sum_pos_r}
use Rattle.integers.proofs.Tests.{lt_yes}
use Rattle.exact_plane.specs.Place.{whole_part, rest_part}
use Rattle.exact_plane.specs.PlaceParts.{is_rest, parts_are}
use Rattle.exact_plane.specs.Point.{Point}
use Rattle.exact_plane.specs.WholeParts.{whole_parts}
use Rattle.exact_plane.proofs.Floors.{less_by_whole}
use Rattle.plane_graphs.specs.Graph.{Edge}
use Rattle.slab_laws.specs.Skeleton.{HasWeight, left_of, lower_than, side, over, under, precedes}
use Rattle.slab_faces.proofs.OverUnder.{negative_not_under, positive_not_over, under_out}
use Rattle.slab_faces.proofs.Points.{before_lower, before_on_wall, before_trans, before_weak, not_before_left}
use Rattle.slab_faces.proofs.Walls.{lower_than-asym, lower_than-before}
use Rattle.edge_predicates.specs.Above.{is_above}
use Rattle.edge_predicates.specs.Highest.{IsSpanning}

-- ---- an edge from (px, py) to (rx, ry), and a point between their abscissas: its side is a mean of its heights over both ends
module _ (px py pw rx ry rw x y w : ℤ) where
  abbrev det : ℤ
  det = (py *ℤ rw -ℤ ry *ℤ pw) *ℤ x +ℤ (rx *ℤ pw -ℤ px *ℤ rw) *ℤ y +ℤ (px *ℤ ry -ℤ rx *ℤ py) *ℤ w

  up : (rx *ℤ w -ℤ x *ℤ rw) *ℤ (y *ℤ pw -ℤ py *ℤ w) +ℤ (x *ℤ pw -ℤ px *ℤ w) *ℤ (y *ℤ rw -ℤ ry *ℤ w) ≡ det *ℤ w
  up = ring (px ∷ py ∷ pw ∷ rx ∷ ry ∷ rw ∷ x ∷ y ∷ w ∷ []) (search sides depth 40 fits 20000) tt

  down : (rx *ℤ w -ℤ x *ℤ rw) *ℤ (py *ℤ w -ℤ y *ℤ pw) +ℤ (x *ℤ pw -ℤ px *ℤ w) *ℤ (ry *ℤ w -ℤ y *ℤ rw) ≡ (pos 0 -ℤ det) *ℤ w
  down = ring (px ∷ py ∷ pw ∷ rx ∷ ry ∷ rw ∷ x ∷ y ∷ w ∷ []) (search sides depth 40 fits 20000) tt

  positive : pos 0 <ℤ w → pos 0 ≤ℤ (x *ℤ pw -ℤ px *ℤ w) → pos 0 <ℤ (rx *ℤ w -ℤ x *ℤ rw) → pos 0 <ℤ (y *ℤ pw -ℤ py *ℤ w) → pos 0 <ℤ (y *ℤ rw -ℤ ry *ℤ w) → pos 0 <ℤ det
  positive W u v a b = cancel_pos {x = det} {k = w} W (subst (λ t. pos 0 <ℤ t) up (sum_pos_l (mul_pos v a) (mul_nonneg u (omega (arith, ints)))))

  negative : pos 0 <ℤ w → pos 0 <ℤ (x *ℤ pw -ℤ px *ℤ w) → pos 0 ≤ℤ (rx *ℤ w -ℤ x *ℤ rw) → pos 0 <ℤ (py *ℤ w -ℤ y *ℤ pw) → pos 0 <ℤ (ry *ℤ w -ℤ y *ℤ rw) → pos 0 <ℤ (pos 0 -ℤ det)
  negative W u v a b = cancel_pos {x = pos 0 -ℤ det} {k = w} W (subst (λ t. pos 0 <ℤ t) down (sum_pos_r (mul_nonneg v (omega (arith, ints))) (mul_pos u b)))

below_zero : (z : ℤ) → pos 0 <ℤ (pos 0 -ℤ z) → z <ℤ pos 0
below_zero z h = omega (arith, ints)

module _ (p q : Point) where
  left_gap : left_of p q ≡ true → pos 0 <ℤ (q.x *ℤ p.w -ℤ p.x *ℤ q.w)
  unfolding left_of
  left_gap h = omega (arith, ints)

  weak_gap : left_of q p ≡ false → pos 0 ≤ℤ (q.x *ℤ p.w -ℤ p.x *ℤ q.w)
  unfolding left_of
  weak_gap h = omega (arith, ints)

  lower_gap : lower_than p q ≡ true → pos 0 <ℤ (q.y *ℤ p.w -ℤ p.y *ℤ q.w)
  unfolding lower_than
  lower_gap h = omega (arith, ints)

  -- of two points, the lower doesn't come last on one wall
  not_level : precedes p q ≡ true → lower_than q p ≡ true → left_of p q ≡ true
  not_level h l = elim (cases_Bool (left_of p q)) [ inl k ↦ k | inr k ↦ absurd (false≢true (sym (lower_than-asym q p l) ∙ before_on_wall p q h k)) ]

module _ (e : Edge) (q : Point) (Q : HasWeight q) (s : IsSpanning e q) where
  -- both ends are above the point that it spans
  pub spanned_over : lower_than q e.low ≡ true → lower_than q e.high ≡ true → side e q <ℤ pos 0
  unfolding side
  spanned_over a b =
      let u = left_gap e.low q (not_level e.low q s.from a) in
      let v = weak_gap q e.high (before_weak q e.high s.to) in
      below_zero _ (negative e.low.x e.low.y e.low.w e.high.x e.high.y e.high.w q.x q.y q.w Q u v (lower_gap q e.low a) (lower_gap q e.high b))

  -- both are below it
  pub spanned_under : lower_than e.low q ≡ true → lower_than e.high q ≡ true → pos 0 <ℤ side e q
  unfolding side
  spanned_under a b =
      let u = weak_gap e.low q (before_weak e.low q s.from) in
      let v = left_gap q e.high (not_level q e.high s.to b) in
      positive e.low.x e.low.y e.low.w e.high.x e.high.y e.high.w q.x q.y q.w Q u v (lower_gap e.low q a) (lower_gap e.high q b)

-- both ends of e are below both ends of f, and q is between the ends of each
pub record IsLower (e f : Edge) (q : Point) : Type 0 where
  pub weights : HasWeight e.low × HasWeight e.high × HasWeight f.low × HasWeight f.high × HasWeight q
  pub spans : IsSpanning e q
  pub spanned : IsSpanning f q
  pub low_low : lower_than e.low f.low ≡ true
  pub low_high : lower_than e.low f.high ≡ true
  pub high_low : lower_than e.high f.low ≡ true
  pub high_high : lower_than e.high f.high ≡ true

module _ (e f : Edge) (q : Point) (h : IsLower e f q) where
  -- e isn't above f
  pub lower_not_above : is_above e f ≡ false
  unfolding is_above
  lower_not_above = elim (cases_Bool (precedes f.low e.low)) [
    | inl k ↦
        let w = h.weights in
        let s = spanned_over f e.low w.0 (record { from = k; to = before_trans e.low q f.high w.0 w.4 w.3 h.spans.from h.spanned.to }) h.low_low h.low_high in
        ap (λ b. cond b (under f e.low) (cond (precedes e.low f.low) (over e f.low) (under f e.high))) k ∙ negative_not_under f e.low s
    | inr k ↦
        let w = h.weights in
        let n = before_lower e.low f.low (not_before_left f.low e.low k) h.low_low in
        let s = spanned_under e f.low w.2 (record { from = n; to = before_trans f.low q e.high w.2 w.4 w.1 h.spanned.from h.spans.to }) h.low_low h.high_low in
        ap (λ b. cond b (under f e.low) (cond (precedes e.low f.low) (over e f.low) (under f e.high))) k
        ∙ ap (λ b. cond b (over e f.low) (under f e.high)) n ∙ positive_not_over e f.low s
  ]

  -- what is above f is above e
  pub under_lower : under f q ≡ true → pos 0 <ℤ side e q
  under_lower u =
      let w = h.weights in
      elim (cases_Bool (lower_than q f.low)) [
        | inl a ↦ elim (cases_Bool (lower_than q f.high)) [
          | inl b ↦ let n = spanned_over f q w.4 h.spanned a b in let p = under_out f q u in absurd (omega (arith, ints))
          | inr b ↦ spanned_under e q w.4 h.spans (lower_than-before e.low f.high q w.0 w.3 w.4 h.low_high b) (lower_than-before e.high f.high q w.1 w.3 w.4 h.high_high b)
        ]
        | inr a ↦ spanned_under e q w.4 h.spans (lower_than-before e.low f.low q w.0 w.2 w.4 h.low_low a) (lower_than-before e.high f.low q w.1 w.2 w.4 h.high_low a)
      ]

-- the lesser whole part of the ordinate is of the lower point
pub lower_by_whole : (p q : Point) → HasWeight p → HasWeight q → (whole_parts p).y <ℤ (whole_parts q).y → lower_than p q ≡ true
unfolding lower_than
lower_by_whole p q P Q l =
    let m = whole_part p.y p.w in
    let n = whole_part q.y q.w in
    let a = rest_part p.y p.w in
    let b = rest_part q.y q.w in
    let h : ((m *ℤ p.w +ℤ a) *ℤ q.w) <ℤ ((n *ℤ q.w +ℤ b) *ℤ p.w) = less_out _ _ (sym (less_by_whole m n a p.w b q.w (is_rest p.y p.w P) (is_rest q.y q.w Q) (less_in _ _ l))) in
    lt_yes _ _ (subst (λ t. (p.y *ℤ q.w) <ℤ (t *ℤ p.w)) (parts_are q.y q.w) (subst (λ t. (t *ℤ q.w) <ℤ ((n *ℤ q.w +ℤ b) *ℤ p.w)) (parts_are p.y p.w) h))
