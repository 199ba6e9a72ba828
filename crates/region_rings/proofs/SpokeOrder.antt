-- The order of ends is total; in a list that ascends by it those of one vertex stand side by side, clockwise.
use Rattle.std.proofs.Common.{◌≡◌, ℕ, zero, suc, ◌+◌, ◌<◌, ◌≤◌, true, false, ◌⊎◌, inl, inr, arith, refl, sym, ap, ◌∙◌, subst, Ordering, Less, Equal, Greater, List, length, is_lt}
use Rattle.std.specs.Prelude.{pos}
use Rattle.std.specs.Ordering.{ordering_then, ordering_reverse}
use Rattle.std.specs.Cmp.{IsTotalOrder, then_total, on_total, nat_cmp_total, back_total, tied_itself}
use Rattle.std.proofs.lemmas.Bool.{cases_lt}
use Rattle.std.proofs.lemmas.Bool.Decides.{nat_tests}
use lib.Dec.{ltb}
use Rattle.integers.proofs.Compare.{ratio_total}
use Rattle.exact_plane.specs.Point.{Point}
use Rattle.exact_plane.specs.PointOrder.{point_cmp, weight}
use Rattle.exact_plane.specs.PointOrderLaws.{point_cmp_total, same_point, weight-positive}
use Rattle.region_rings.specs.declared.spokes.Spoke.{Spoke}
use Rattle.region_rings.specs.Nexts.{vertex_at}
use Rattle.region_rings.specs.Spokes.{turn_cmp, spoke_cmp, spoke_in}
use Rattle.integers.proofs.Classes.{then_less}

pub turn_cmp_total : IsTotalOrder turn_cmp
turn_cmp_total = then_total (on_total (λ (w : Spoke). w.quarter) nat_cmp_total) (back_total (ratio_total (λ (w : Spoke). w.rise) (λ (w : Spoke). weight (pos w.run)) (λ (w : Spoke). weight-positive (pos w.run))))

pub spoke_cmp_total : IsTotalOrder spoke_cmp
spoke_cmp_total = then_total (on_total (λ (w : Spoke). w.at) point_cmp_total) turn_cmp_total

-- neighbours ascend, so all do
pub all_ascend : (ss : List Spoke) → ((k : ℕ) → k + 1 < length ss → spoke_cmp (spoke_in ss k) (spoke_in ss (k + 1)) ≡ Less) → (i k : ℕ) → i < k → k < length ss → spoke_cmp (spoke_in ss i) (spoke_in ss k) ≡ Less
all_ascend ss f i zero h l = absurd (omega arith)
all_ascend ss f i (suc k) h l = elim (cases_lt i k) [
  | inl a ↦ spoke_cmp_total.trans (spoke_in ss i) (spoke_in ss k) (spoke_in ss (suc k)) (all_ascend ss f i k a (omega arith)) (subst (λ n. spoke_cmp (spoke_in ss k) (spoke_in ss n) ≡ Less) (omega arith) (f k (omega arith)))
  | inr a ↦ (let e : k ≡ i = omega arith in subst (λ n. spoke_cmp (spoke_in ss n) (spoke_in ss (suc k)) ≡ Less) e (subst (λ n. spoke_cmp (spoke_in ss k) (spoke_in ss n) ≡ Less) (omega arith) (f k (omega arith))))
]

module _ (ss : List Spoke) (up : (i k : ℕ) → i < k → k < length ss → spoke_cmp (spoke_in ss i) (spoke_in ss k) ≡ Less) where
  -- what stands earlier has an earlier vertex, or the same
  by_vertex : (i k : ℕ) → i < k → k < length ss → (point_cmp (vertex_at ss i) (vertex_at ss k) ≡ Less) ⊎ ((vertex_at ss i ≡ vertex_at ss k) × (turn_cmp (spoke_in ss i) (spoke_in ss k) ≡ Less))
  by_vertex i k h l = elim (then_less (point_cmp (vertex_at ss i) (vertex_at ss k)) (turn_cmp (spoke_in ss i) (spoke_in ss k)) (up i k h l)) [
    | inl a ↦ inl a
    | inr b ↦ inr (same_point (vertex_at ss i) (vertex_at ss k) b.0, b.1)
  ]

  never : (p : Point) → point_cmp p p ≡ Less → ⊥
  never p h = let t = tied_itself point_cmp_total p in cc

  -- between two ends of one vertex there are no others
  pub between : (i m k : ℕ) → i ≤ m → m ≤ k → k < length ss → vertex_at ss i ≡ vertex_at ss k → vertex_at ss m ≡ vertex_at ss i
  between i m k h l b e = elim (cases_lt i m) [
    | inr a ↦ (let q : m ≡ i = omega arith in ap (vertex_at ss) q)
    | inl a ↦ elim (by_vertex i m a (omega arith)) [
      | inr s ↦ sym s.0
      | inl p ↦ elim (cases_lt m k) [
        | inr c ↦ (let q : m ≡ k = omega arith in ap (vertex_at ss) q ∙ sym e)
        | inl c ↦ elim (by_vertex m k c b) [
          | inr s ↦ s.0 ∙ sym e
          | inl q ↦ absurd (never (vertex_at ss k) (subst (λ (v : Point). point_cmp v (vertex_at ss k) ≡ Less) e (point_cmp_total.trans (vertex_at ss i) (vertex_at ss m) (vertex_at ss k) p q)))
        ]
      ]
    ]
  ]

  turns : (i k : ℕ) → i < k → k < length ss → vertex_at ss i ≡ vertex_at ss k → turn_cmp (spoke_in ss i) (spoke_in ss k) ≡ Less
  turns i k h l e = elim (by_vertex i k h l) [
    | inl p ↦ absurd (never (vertex_at ss k) (subst (λ (v : Point). point_cmp v (vertex_at ss k) ≡ Less) e p))
    | inr s ↦ s.1
  ]

  -- of one vertex the earlier is met first
  pub order_is : (i k : ℕ) → i < length ss → k < length ss → vertex_at ss i ≡ vertex_at ss k → is_lt (turn_cmp (spoke_in ss i) (spoke_in ss k)) ≡ ltb i k
  order_is i k h l e = elim (cases_lt i k) [
    | inl a ↦ ap is_lt (turns i k a l e) ∙ yes i k a
    | inr a ↦ elim (cases_lt k i) [
      | inl b ↦ ap is_lt (turn_cmp_total.antisymm (spoke_in ss i) (spoke_in ss k) ∙ ap ordering_reverse (turns k i b h (sym e))) ∙ no i k a
      | inr b ↦ (let q : k ≡ i = omega arith in ap (λ n. is_lt (turn_cmp (spoke_in ss i) (spoke_in ss n))) q ∙ ap is_lt (tied_itself turn_cmp_total (spoke_in ss i)) ∙ no i k a)
    ]
  ]
    where
      yes : (i k : ℕ) → i < k → true ≡ ltb i k
      yes i k h = grind (arith, nat_tests)

      no : (i k : ℕ) → k ≤ i → false ≡ ltb i k
      no i k h = grind (arith, nat_tests)

  not_itself : (i k : ℕ) → i < k → k < length ss → spoke_cmp (spoke_in ss i) (spoke_in ss k) ≡ Equal → ⊥
  not_itself i k h l e = let u = up i k h l in cc

  -- what the order doesn't tell apart stands in one place
  pub one_place : (i k : ℕ) → i < length ss → k < length ss → spoke_cmp (spoke_in ss i) (spoke_in ss k) ≡ Equal → i ≡ k
  one_place i k h l e = elim (cases_lt i k) [
    | inl a ↦ absurd (not_itself i k a l e)
    | inr a ↦ elim (cases_lt k i) [
      | inl b ↦ absurd (not_itself k i b h (spoke_cmp_total.antisymm (spoke_in ss k) (spoke_in ss i) ∙ ap ordering_reverse e))
      | inr b ↦ omega arith
    ]
  ]

  pub same_place : (i k : ℕ) → i < length ss → k < length ss → spoke_in ss i ≡ spoke_in ss k → i ≡ k
  same_place i k h l e = one_place i k h l (subst (λ (s : Spoke). spoke_cmp (spoke_in ss i) s ≡ Equal) e (tied_itself spoke_cmp_total (spoke_in ss i)))
