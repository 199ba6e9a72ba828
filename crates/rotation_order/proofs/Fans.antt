-- Of two edges that run to the right and begin in one point, or end in one: which is below the other.
use Rattle.std.proofs.Common.{◌≡◌, Bool, true, false, arith, sym, ap, subst, ◌∙◌, inl, inr, [], ◌∷◌}
use Rattle.std.specs.Prelude.{ℤ, pos, ◌+ℤ◌, ◌-ℤ◌, ◌*ℤ◌, ◌<ℤ◌, ◌&&◌}
use Rattle.std.proofs.lemmas.Int.{ints}
use Rattle.std.proofs.lemmas.Bool.{and_parts, or_cases, cases_Bool}
use lib.IntN.{*ℤ-zero}
use lib.Signed.{lt_z}
use Rattle.integers.proofs.Reify.{ring, sides}
use Rattle.integers.proofs.Tests.{lt_yes, lt_is}
use Rattle.integers.proofs.Signs.{opposite_above}
use Rattle.exact_plane.specs.Point.{Point}
use Rattle.plane_graphs.specs.Graph.{Edge}
use Rattle.plane_graphs.proofs.Lists.{both_ways}
use Rattle.slab_laws.specs.Skeleton.{left_of, run, side, in_range, gap, higher_at, below}
use Rattle.slab_faces.proofs.Walls.{left_of-irrefl, left_of-asym, run_positive, side-upper, side-lower}
use Rattle.slab_faces.proofs.Order.{Passes, below_from, gap-on_e, gap-on_f}
use Rattle.rotation_order.proofs.Factors.{lt_turned, opposite_below, falls_out, falls_in, climbs_out, climbs_in}

abbrev pub edge_from : Point → Point → Edge
edge_from p q = record { low = p; high = q }

-- ---- the determinant of three points, two of them exchanged
pub far_turned : (a b c d e f g h i : ℤ) → (b *ℤ i -ℤ h *ℤ c) *ℤ d +ℤ (g *ℤ c -ℤ a *ℤ i) *ℤ e +ℤ (a *ℤ h -ℤ g *ℤ b) *ℤ f ≡ pos 0 -ℤ ((b *ℤ f -ℤ e *ℤ c) *ℤ g +ℤ (d *ℤ c -ℤ a *ℤ f) *ℤ h +ℤ (a *ℤ e -ℤ d *ℤ b) *ℤ i)
far_turned a b c d e f g h i = ring (a ∷ b ∷ c ∷ d ∷ e ∷ f ∷ g ∷ h ∷ i ∷ []) (search sides depth 40 fits 20000) tt

near_turned : (a b c d e f g h i : ℤ) → (h *ℤ c -ℤ b *ℤ i) *ℤ d +ℤ (a *ℤ i -ℤ g *ℤ c) *ℤ e +ℤ (g *ℤ b -ℤ a *ℤ h) *ℤ f ≡ pos 0 -ℤ ((e *ℤ c -ℤ b *ℤ f) *ℤ g +ℤ (a *ℤ f -ℤ d *ℤ c) *ℤ h +ℤ (d *ℤ b -ℤ a *ℤ e) *ℤ i)
near_turned a b c d e f g h i = ring (a ∷ b ∷ c ∷ d ∷ e ∷ f ∷ g ∷ h ∷ i ∷ []) (search sides depth 40 fits 20000) tt

side_far : (p a b : Point) → side (edge_from p b) a ≡ pos 0 -ℤ side (edge_from p a) b
unfolding side
side_far p a b = far_turned p.x p.y p.w a.x a.y a.w b.x b.y b.w

side_near : (q a b : Point) → side (edge_from b q) a ≡ pos 0 -ℤ side (edge_from a q) b
unfolding side
side_near q a b = near_turned q.x q.y q.w a.x a.y a.w b.x b.y b.w

-- ---- what makes one edge be below another
gap_of : (f e : Edge) (u : Point) → higher_at f e u ≡ true → pos 0 <ℤ gap f e u
gap_of f e u h = let a = and_parts (in_range f u && in_range e u) (lt_z (pos 0) (gap f e u)) h in lt_is (pos 0) (gap f e u) a.1

record HasGap (f e : Edge) (b : Bool) : Type 0 where
  f_low : pos 0 <ℤ gap f e f.low → b ≡ true
  f_high : pos 0 <ℤ gap f e f.high → b ≡ true
  e_low : pos 0 <ℤ gap f e e.low → b ≡ true
  e_high : pos 0 <ℤ gap f e e.high → b ≡ true

by_ends : (f e : Edge) (b : Bool) → HasGap f e b → below f e ≡ true → b ≡ true
by_ends f e b k h =
    elim (or_cases _ _ h) [
      | inl a ↦ k.f_low (gap_of f e f.low a)
      | inr t ↦ elim (or_cases _ _ t) [
        | inl a ↦ k.f_high (gap_of f e f.high a)
        | inr u ↦ elim (or_cases _ _ u) [
          | inl a ↦ k.e_low (gap_of f e e.low a)
          | inr a ↦ k.e_high (gap_of f e e.high a)
        ]
      ]
    ]

-- an end of both edges makes no gap
no_gap : (f e : Edge) (u : Point) (b : Bool) → side e u ≡ pos 0 → side f u ≡ pos 0 → pos 0 <ℤ gap f e u → b ≡ true
no_gap f e u b se sf h =
    let z : gap f e u ≡ pos 0 = gap-on_e f e u se ∙ ap (λ s. run e *ℤ s) sf ∙ *ℤ-zero (run e) in
    absurd (omega (arith, ints))

-- ---- edges that begin in one point
module _ (p a b : Point) (pa : left_of p a ≡ true) (pb : left_of p b ≡ true) where
  abbrev to_b : Edge
  to_b = edge_from p b

  abbrev to_a : Edge
  to_a = edge_from p a

  low_gap_f : gap to_b to_a b ≡ pos 0 -ℤ run to_b *ℤ side to_a b
  low_gap_f = gap-on_f to_b to_a b (side-upper to_b)

  low_gap_e : gap to_b to_a a ≡ run to_a *ℤ side to_b a
  low_gap_e = gap-on_e to_b to_a a (side-upper to_a)

  low_out : below to_b to_a ≡ true → lt_z (side to_a b) (pos 0) ≡ true
  low_out = by_ends to_b to_a (lt_z (side to_a b) (pos 0)) (record {
    f_low = no_gap to_b to_a p _ (side-lower to_a) (side-lower to_b);
    f_high = λ h. lt_yes (side to_a b) (pos 0) (falls_out (run to_b) (side to_a b) (gap to_b to_a b) (run_positive to_b pb) low_gap_f h);
    e_low = no_gap to_b to_a p _ (side-lower to_a) (side-lower to_b);
    e_high = λ h. lt_yes (side to_a b) (pos 0) (opposite_below (side to_a b) (side to_b a) (side_far p a b) (climbs_out (run to_a) (side to_b a) (gap to_b to_a a) (run_positive to_a pa) low_gap_e h));
  })

  low_passes : (t : Point) → left_of t p ≡ false → left_of b t ≡ false → left_of a t ≡ false → Passes to_b to_a t
  low_passes t x y z = record { f_from = x; f_to = y; e_from = x; e_to = z; f_long = pb; e_long = pa; f_e = pa; e_f = pb }

  low_in : lt_z (side to_a b) (pos 0) ≡ true → below to_b to_a ≡ true
  low_in h =
      let n = lt_is (side to_a b) (pos 0) h in
      elim (cases_Bool (left_of a b)) [
        | inl k ↦ below_from to_b to_a a (low_passes a (left_of-asym p a pa) (left_of-asym a b k) (left_of-irrefl a)) (climbs_in (run to_a) (side to_b a) (gap to_b to_a a) (run_positive to_a pa) low_gap_e (opposite_above (side to_a b) (side to_b a) (side_far p a b) n))
        | inr k ↦ below_from to_b to_a b (low_passes b (left_of-asym p b pb) (left_of-irrefl b) k) (falls_in (run to_b) (side to_a b) (gap to_b to_a b) (run_positive to_b pb) low_gap_f n)
      ]

  pub below_low : below (edge_from p b) (edge_from p a) ≡ lt_z (side (edge_from p a) b) (pos 0)
  below_low = both_ways (below to_b to_a) (lt_z (side to_a b) (pos 0)) low_out low_in

  pub below_low_too : below (edge_from p b) (edge_from p a) ≡ lt_z (pos 0) (side (edge_from p b) a)
  below_low_too = below_low ∙ lt_turned (side to_a b) (side to_b a) (side_far p a b)

-- ---- edges that end in one point
module _ (q a b : Point) (aq : left_of a q ≡ true) (bq : left_of b q ≡ true) where
  abbrev of_b : Edge
  of_b = edge_from b q

  abbrev of_a : Edge
  of_a = edge_from a q

  high_gap_f : gap of_b of_a b ≡ pos 0 -ℤ run of_b *ℤ side of_a b
  high_gap_f = gap-on_f of_b of_a b (side-lower of_b)

  high_gap_e : gap of_b of_a a ≡ run of_a *ℤ side of_b a
  high_gap_e = gap-on_e of_b of_a a (side-lower of_a)

  high_out : below of_b of_a ≡ true → lt_z (side of_a b) (pos 0) ≡ true
  high_out = by_ends of_b of_a (lt_z (side of_a b) (pos 0)) (record {
    f_low = λ h. lt_yes (side of_a b) (pos 0) (falls_out (run of_b) (side of_a b) (gap of_b of_a b) (run_positive of_b bq) high_gap_f h);
    f_high = no_gap of_b of_a q _ (side-upper of_a) (side-upper of_b);
    e_low = λ h. lt_yes (side of_a b) (pos 0) (opposite_below (side of_a b) (side of_b a) (side_near q a b) (climbs_out (run of_a) (side of_b a) (gap of_b of_a a) (run_positive of_a aq) high_gap_e h));
    e_high = no_gap of_b of_a q _ (side-upper of_a) (side-upper of_b);
  })

  high_passes : (t : Point) → left_of q t ≡ false → left_of t b ≡ false → left_of t a ≡ false → Passes of_b of_a t
  high_passes t x y z = record { f_from = y; f_to = x; e_from = z; e_to = x; f_long = bq; e_long = aq; f_e = bq; e_f = aq }

  high_in : lt_z (side of_a b) (pos 0) ≡ true → below of_b of_a ≡ true
  high_in h =
      let n = lt_is (side of_a b) (pos 0) h in
      elim (cases_Bool (left_of b a)) [
        | inl k ↦ below_from of_b of_a a (high_passes a (left_of-asym a q aq) (left_of-asym b a k) (left_of-irrefl a)) (climbs_in (run of_a) (side of_b a) (gap of_b of_a a) (run_positive of_a aq) high_gap_e (opposite_above (side of_a b) (side of_b a) (side_near q a b) n))
        | inr k ↦ below_from of_b of_a b (high_passes b (left_of-asym b q bq) (left_of-irrefl b) k) (falls_in (run of_b) (side of_a b) (gap of_b of_a b) (run_positive of_b bq) high_gap_f n)
      ]

  pub below_high : below (edge_from b q) (edge_from a q) ≡ lt_z (side (edge_from a q) b) (pos 0)
  below_high = both_ways (below of_b of_a) (lt_z (side of_a b) (pos 0)) high_out high_in

  pub below_high_too : below (edge_from b q) (edge_from a q) ≡ lt_z (pos 0) (side (edge_from b q) a)
  below_high_too = below_high ∙ lt_turned (side of_a b) (side of_b a) (side_near q a b)

-- ---- the same, of any two edges
module _ (e f : Edge) (E : left_of e.low e.high ≡ true) (F : left_of f.low f.high ≡ true) where
  pub from_low : e.low ≡ f.low → below f e ≡ lt_z (side e f.high) (pos 0)
  from_low s = subst (λ p. below (edge_from p f.high) e ≡ lt_z (side e f.high) (pos 0)) s (below_low e.low e.high f.high E (subst (λ p. left_of p f.high ≡ true) (sym s) F))

  pub from_low_too : e.low ≡ f.low → below f e ≡ lt_z (pos 0) (side f e.high)
  from_low_too s = subst (λ p. below (edge_from p f.high) e ≡ lt_z (pos 0) (side (edge_from p f.high) e.high)) s (below_low_too e.low e.high f.high E (subst (λ p. left_of p f.high ≡ true) (sym s) F))

  pub from_high : e.high ≡ f.high → below f e ≡ lt_z (side e f.low) (pos 0)
  from_high s = subst (λ q. below (edge_from f.low q) e ≡ lt_z (side e f.low) (pos 0)) s (below_high e.high e.low f.low E (subst (λ q. left_of f.low q ≡ true) (sym s) F))

  pub from_high_too : e.high ≡ f.high → below f e ≡ lt_z (pos 0) (side f e.low)
  from_high_too s = subst (λ q. below (edge_from f.low q) e ≡ lt_z (pos 0) (side (edge_from f.low q) e.low)) s (below_high_too e.high e.low f.low E (subst (λ q. left_of f.low q ≡ true) (sym s) F))
