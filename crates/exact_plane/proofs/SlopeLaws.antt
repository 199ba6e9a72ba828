-- The order of slopes is total, and is that of the slopes as fractions, with vertical lines last.
use Rattle.std.proofs.Common.{◌≡◌, [], ◌∷◌, ℤ, pos, ◌-ℤ◌, ◌*ℤ◌, ◌<ℤ◌, ◌≤ℤ◌, neg_ℤ, refl, ap, ap₂, sym, ◌∙◌, subst, arith, Bool, true, false, Less, Equal, Greater}
use Rattle.std.specs.Prelude.{◌↔◌, if◌then◌else◌}
use Rattle.std.specs.Ordering.{bool_cmp, int_eq, ordering_then, ordering_reverse}
use Rattle.std.specs.Cmp.{IsTotalOrder, bool_cmp_total, on_total, then_total}
use Rattle.std.proofs.lemmas.Int.{ints, by_lt_z}
use Rattle.integers.specs.Ratio.{ratio_cmp}
use Rattle.integers.proofs.Compare.{ratio_total, less_in, equal_in, equal_out, greater_in, same_cmp}
use Rattle.integers.proofs.Decisions.{eq_in}
use Rattle.integers.proofs.Reify.{ring, sides}
use Rattle.integers.proofs.Signs.{mul_pos}
use Rattle.exact_plane.specs.Line.{Line, IsForward}
use Rattle.exact_plane.specs.MeetOf.{weight_of}
use Rattle.exact_plane.specs.PointOrder.{weight}
use Rattle.exact_plane.specs.PointOrderLaws.{weight-positive}
use Rattle.exact_plane.specs.Slope.{slope_cmp, fraction_cmp, rise, rise_cmp, IsVerticalLast}
use Rattle.exact_plane.proofs.Places.{weight-is}

pub rise_cmp_total : IsTotalOrder rise_cmp
rise_cmp_total = then_total (on_total (λ (l : Line). int_eq l.b (pos 0)) bool_cmp_total) (ratio_total (λ (l : Line). rise l) (λ (l : Line). weight l.b) (λ l. weight-positive l.b))

not_zero : (b : ℤ) → pos 0 <ℤ b → int_eq b (pos 0) ≡ false
not_zero b h = grind (arith, ints)

picked_first : (b : Bool) (x y : ℤ) → b ≡ true → (if b then x else y) ≡ x
picked_first true x y e = refl
picked_first false x y e = cc

picked_second : (b : Bool) (x y : ℤ) → b ≡ false → (if b then x else y) ≡ y
picked_second true x y e = cc
picked_second false x y e = refl

module _ (l m : Line) where
  pub parallel : (slope_cmp l m ≡ Equal) ↔ (weight_of l m ≡ pos 0)
  parallel = (λ h. sym (equal_out (pos 0) (weight_of l m) h), λ e. equal_in (pos 0) (weight_of l m) (sym e))

  -- neither is vertical
  pub fractions : slope_cmp l m ≡ fraction_cmp l m
  fractions =
      sym (same_cmp (neg_ℤ l.a *ℤ m.b) (neg_ℤ m.a *ℤ l.b) (pos 0) (weight_of l m) {k = pos 1} {m = pos 1} (omega (arith, ints)) (omega (arith, ints)) (ring (l.a ∷ l.b ∷ m.a ∷ m.b ∷ []) (search sides depth 40 fits 20000) tt))

  by_tests : (s t : Bool) → int_eq l.b (pos 0) ≡ s → int_eq m.b (pos 0) ≡ t → rise_cmp l m ≡ ordering_then (bool_cmp s t) (ratio_cmp (rise l) (weight l.b) (rise m) (weight m.b))
  by_tests s t e f = ap₂ (λ x y. ordering_then (bool_cmp x y) (ratio_cmp (rise l) (weight l.b) (rise m) (weight m.b))) e f

  neither : pos 0 <ℤ l.b → pos 0 <ℤ m.b → rise_cmp l m ≡ slope_cmp l m
  neither h k =
      by_tests false false (not_zero l.b h) (not_zero m.b k)
      ∙ ap₂ (λ x y. ratio_cmp x (weight l.b) y (weight m.b)) (picked_second _ (pos 0) (neg_ℤ l.a) (not_zero l.b h)) (picked_second _ (pos 0) (neg_ℤ m.a) (not_zero m.b k))
      ∙ ap₂ (λ x y. ratio_cmp (neg_ℤ l.a) x (neg_ℤ m.a) y) (weight-is l.b h) (weight-is m.b k)
      ∙ sym fractions

  both : l.b ≡ pos 0 → m.b ≡ pos 0 → rise_cmp l m ≡ slope_cmp l m
  both e f =
      let flat : pos 0 ≡ weight_of l m = ring (l.a ∷ m.a ∷ []) (search sides depth 40 fits 20000) tt ∙ (λ i. l.a *ℤ sym f i -ℤ m.a *ℤ sym e i) in
      by_tests true true (eq_in l.b (pos 0) e) (eq_in m.b (pos 0) f)
      ∙ ap₂ (λ x y. ratio_cmp x (weight l.b) y (weight m.b)) (picked_first _ (pos 0) (neg_ℤ l.a) (eq_in l.b (pos 0) e)) (picked_first _ (pos 0) (neg_ℤ m.a) (eq_in m.b (pos 0) f))
      ∙ equal_in (pos 0 *ℤ weight m.b) (pos 0 *ℤ weight l.b) (ring (weight l.b ∷ weight m.b ∷ []) (search sides depth 40 fits 20000) tt)
      ∙ sym (equal_in (pos 0) (weight_of l m) flat)

module _ (l m : Line) (hl : IsForward l.a l.b) (hm : IsForward m.a m.b) where
  before_vertical : pos 0 <ℤ l.b → m.b ≡ pos 0 → slope_cmp l m ≡ Less
  before_vertical h e =
      let u = hm.upward e in
      let p = mul_pos {a = neg_ℤ m.a} {b = l.b} (omega (arith, ints)) h in
      let r : weight_of l m ≡ neg_ℤ m.a *ℤ l.b = ap (λ z. l.a *ℤ z -ℤ m.a *ℤ l.b) e ∙ ring (l.a ∷ m.a ∷ l.b ∷ []) (search sides depth 40 fits 20000) tt in
      less_in (pos 0) (weight_of l m) (subst (λ z. pos 0 <ℤ z) (sym r) p)

  after_slanted : l.b ≡ pos 0 → pos 0 <ℤ m.b → slope_cmp l m ≡ Greater
  after_slanted e h =
      let u = hl.upward e in
      let p = mul_pos {a = neg_ℤ l.a} {b = m.b} (omega (arith, ints)) h in
      let q : neg_ℤ (neg_ℤ l.a *ℤ m.b) <ℤ pos 0 = omega (arith, ints) in
      let r : weight_of l m ≡ neg_ℤ (neg_ℤ l.a *ℤ m.b) = ap (λ z. l.a *ℤ m.b -ℤ m.a *ℤ z) e ∙ ring (l.a ∷ m.a ∷ m.b ∷ []) (search sides depth 40 fits 20000) tt in
      greater_in (pos 0) (weight_of l m) (subst (λ z. z <ℤ pos 0) (sym r) q)

  pub vertical_last : IsVerticalLast l m (slope_cmp l m)
  vertical_last = record { second = before_vertical; first = after_slanted }

  -- by cases it is the same order
  pub rise_is : rise_cmp l m ≡ slope_cmp l m
  rise_is =
      by_lt_z (pos 0) l.b
      (λ h. by_lt_z (pos 0) m.b (λ k. neither l m h k) (λ k. let e = flat m.b k hm.forward in by_tests l m false true (not_zero l.b h) (eq_in m.b (pos 0) e) ∙ sym (before_vertical h e)))
      (λ h. let e = flat l.b h hl.forward in
      by_lt_z (pos 0) m.b (λ k. by_tests l m true false (eq_in l.b (pos 0) e) (not_zero m.b k) ∙ sym (after_slanted e k)) (λ k. both l m e (flat m.b k hm.forward)))
    where
      flat : (b : ℤ) → b ≤ℤ pos 0 → pos 0 ≤ℤ b → b ≡ pos 0
      flat b h k = omega (arith, ints)

-- ---- the order of lines is total
pub record Forward : Type 0 where
  pub line : Line
  pub runs : IsForward line.a line.b

pub slope_total : IsTotalOrder (λ (l m : Forward). slope_cmp l.line m.line)
slope_total =
    let is : (l m : Forward) → rise_cmp l.line m.line ≡ slope_cmp l.line m.line = λ l m. rise_is l.line m.line l.runs m.runs in
    let o = rise_cmp_total in
    record {
      antisymm = λ l m. sym (is l m) ∙ o.antisymm l.line m.line ∙ ap ordering_reverse (is m l);
      trans = λ l m n h k. sym (is l n) ∙ o.trans l.line m.line n.line (is l m ∙ h) (is m n ∙ k);
      congr = λ l m n h. sym (is l n) ∙ o.congr l.line m.line n.line (is l m ∙ h) ∙ is m n;
    }
