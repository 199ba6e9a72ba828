-- An edge goes the same way at another as each of its points does.
use Rattle.std.proofs.Common.{◌≡◌, true, false, arith, sym, ◌∙◌, ◌⊎◌, inl, inr, subst, [], ◌∷◌}
use Rattle.std.specs.Prelude.{ℤ, pos, ◌+ℤ◌, ◌-ℤ◌, ◌*ℤ◌, ◌<ℤ◌, ◌≤ℤ◌}
use Rattle.std.proofs.lemmas.Int.{ints, by_lt_z}
use Rattle.std.proofs.lemmas.Bool.{false≢true, or_left, or_right, false_from_ne_true, cases_Bool}
use lib.IntN.{*ℤ-zero}
use Rattle.integers.proofs.Reify.{ring, sides}
use Rattle.integers.proofs.Signs.{mul_pos'}
use Rattle.exact_plane.specs.Point.{Point}
use Rattle.plane_graphs.specs.Graph.{Edge}
use Rattle.slab_laws.specs.Skeleton.{Skeleton, HasWeight, left_of, run, side, under, below, gap, in_range, higher_at, precedes}
use Rattle.slab_faces.proofs.Ints.{times_at_most, times_less, zero_weak}
use Rattle.slab_faces.proofs.OverUnder.{not_over, not_under, over_in, over_out, under_not_over, under_out, weak_over}
use Rattle.slab_faces.proofs.Walls.{left_of-irrefl, left_of-asym, left_of-before, left_of-after, lower_than-before, lower_than-after, run_positive, side-lower, side-upper, side_rises, over-upper}
use Rattle.slab_faces.proofs.Cells.{not_right_trans}
use Rattle.slab_faces.proofs.Order.{Passes, below_from, below_asym, gap_positive, gap-on_e, gap-on_f, ranged, higher}
use Rattle.edge_predicates.specs.Highest.{IsSpanning}
use Rattle.edge_predicates.specs.Above.{is_above, IsBeside, EdgesKeepSides}
use Rattle.slab_faces.proofs.Points.{before_left, before_weak, before_on_wall, not_before_left, not_before_lower, before_asym, after_before, before_after}
use Rattle.edge_predicates.proofs.Seen.{slanted_below}
use Rattle.edge_predicates.proofs.Uprights.{f_long, above_later, above_earlier, above_fan, never_inside, upright_above, upright_not_above}

-- from one lower end, each is as much on the left of the other's upper end as that one is on its right
pub turned : (e f : Edge) → f.low ≡ e.low → side e f.high ≡ pos 0 -ℤ side f e.high
unfolding side
turned e f h = by e f.high f.low h
  where
    by : (e : Edge) (u l : Point) → l ≡ e.low → side e u ≡ pos 0 -ℤ side (record { low = l; high = u }) e.high
    by e u l h = subst (λ (l : Point). side e u ≡ pos 0 -ℤ side (record { low = l; high = u }) e.high) (sym h) (flip e.low.x e.low.y e.low.w e.high.x e.high.y e.high.w u.x u.y u.w)
      where
        flip : (a b c d e f x y w : ℤ) → (b *ℤ f -ℤ e *ℤ c) *ℤ x +ℤ (d *ℤ c -ℤ a *ℤ f) *ℤ y +ℤ (a *ℤ e -ℤ d *ℤ b) *ℤ w ≡ pos 0 -ℤ ((b *ℤ w -ℤ y *ℤ c) *ℤ d +ℤ (x *ℤ c -ℤ a *ℤ w) *ℤ e +ℤ (a *ℤ y -ℤ x *ℤ b) *ℤ f)
        flip a b c d e f x y w = ring (a ∷ b ∷ c ∷ d ∷ e ∷ f ∷ x ∷ y ∷ w ∷ []) (search sides depth 40 fits 20000) tt

-- a positive number times a negative one
down_times : (k x : ℤ) → pos 0 <ℤ k → x <ℤ pos 0 → (k *ℤ x) <ℤ pos 0
down_times k x K h = let a = times_less k x (pos 0) K h in let z = *ℤ-zero k in omega (arith, ints)

-- what is above f, and not above e, has f below e there
wide : (e f : Edge) (q : Point) → pos 0 <ℤ run e → pos 0 <ℤ run f → pos 0 <ℤ side f q → side e q ≤ℤ pos 0 → pos 0 <ℤ gap f e q
unfolding gap
wide e f q Re Rf x y =
    let i = mul_pos' (run e) (side f q) Re x in
    let j = times_at_most (run f) (side e q) (pos 0) Rf y in
    let z = *ℤ-zero (run f) in
    omega (arith, ints)

module _ (g : Skeleton) (e f : Edge) (q : Point) (b : IsBeside g e f q) (long : left_of e.low e.high ≡ true) where
  el : HasWeight e.low
  el = (b.plane.proper_edge e b.E).0

  eh : HasWeight e.high
  eh = (b.plane.proper_edge e b.E).1

  fl : HasWeight f.low
  fl = (b.plane.proper_edge f b.F).0

  fh : HasWeight f.high
  fh = (b.plane.proper_edge f b.F).1

  Re : pos 0 <ℤ run e
  Re = run_positive e long

  Rf : pos 0 <ℤ run f
  Rf = run_positive f (f_long g e f q b)

  q_el : left_of q e.low ≡ false
  q_el = not_before_left q e.low b.from

  eh_q : left_of e.high q ≡ false
  eh_q = not_before_left e.high q b.to

  q_fl : left_of q f.low ≡ false
  q_fl = before_weak f.low q b.spanning.from

  fh_q : left_of f.high q ≡ false
  fh_q = before_weak q f.high b.spanning.to

  -- the ends' ranges
  el_in_e : in_range e e.low ≡ true
  el_in_e = ranged e e.low (left_of-irrefl e.low) (left_of-asym _ _ long)

  eh_in_e : in_range e e.high ≡ true
  eh_in_e = ranged e e.high (left_of-asym _ _ long) (left_of-irrefl e.high)

  fl_in_f : in_range f f.low ≡ true
  fl_in_f = ranged f f.low (left_of-irrefl f.low) (left_of-asym _ _ (f_long g e f q b))

  fh_in_f : in_range f f.high ≡ true
  fh_in_f = ranged f f.high (left_of-asym _ _ (f_long g e f q b)) (left_of-irrefl f.high)

  el_in_f : left_of e.low f.low ≡ false → in_range f e.low ≡ true
  el_in_f h = ranged f e.low h (not_right_trans e.low q f.high el b.Q fh q_el fh_q)

  fl_in_e : left_of f.low e.low ≡ false → in_range e f.low ≡ true
  fl_in_e h = ranged e f.low h (not_right_trans f.low q e.high fl b.Q eh q_fl eh_q)

  eh_in_f : left_of f.high e.high ≡ false → in_range f e.high ≡ true
  eh_in_f h = ranged f e.high (not_right_trans f.low q e.high fl b.Q eh q_fl eh_q) h

  fh_in_e : left_of e.high f.high ≡ false → in_range e f.high ≡ true
  fh_in_e h = ranged e f.high (not_right_trans e.low q f.high el b.Q fh q_el fh_q) h

  -- f below e, seen at one of the four ends
  at_el : left_of e.low f.low ≡ false → pos 0 <ℤ side f e.low → below f e ≡ true
  at_el h k =
      let i = gap-on_e f e e.low (side-lower e) in
      let m = mul_pos' (run e) (side f e.low) Re k in
      or_right _ _ (or_right _ _ (or_left _ _ (higher f e e.low (el_in_f h) el_in_e (omega (arith, ints)))))

  at_eh : left_of f.high e.high ≡ false → pos 0 <ℤ side f e.high → below f e ≡ true
  at_eh h k =
      let i = gap-on_e f e e.high (side-upper e) in
      let m = mul_pos' (run e) (side f e.high) Re k in
      or_right (higher_at f e f.low) _ (or_right (higher_at f e f.high) _ (or_right (higher_at f e e.low) _ (higher f e e.high (eh_in_f h) eh_in_e (omega (arith, ints)))))

  at_fl : left_of f.low e.low ≡ false → side e f.low <ℤ pos 0 → below f e ≡ true
  at_fl h k =
      let i = gap-on_f f e f.low (side-lower f) in
      let m = down_times (run f) (side e f.low) Rf k in
      or_left _ _ (higher f e f.low fl_in_f (fl_in_e h) (omega (arith, ints)))

  at_fh : left_of e.high f.high ≡ false → side e f.high <ℤ pos 0 → below f e ≡ true
  at_fh h k =
      let i = gap-on_f f e f.high (side-upper f) in
      let m = down_times (run f) (side e f.high) Rf k in
      or_right _ _ (or_left _ _ (higher f e f.high fh_in_f (fh_in_e h) (omega (arith, ints))))

  -- e below f
  at_el' : left_of e.low f.low ≡ false → side f e.low <ℤ pos 0 → below e f ≡ true
  at_el' h k =
      let i = gap-on_f e f e.low (side-lower e) in
      let m = down_times (run e) (side f e.low) Re k in
      or_left _ _ (higher e f e.low el_in_e (el_in_f h) (omega (arith, ints)))

  at_eh' : left_of f.high e.high ≡ false → side f e.high <ℤ pos 0 → below e f ≡ true
  at_eh' h k =
      let i = gap-on_f e f e.high (side-upper e) in
      let m = down_times (run e) (side f e.high) Re k in
      or_right _ _ (or_left _ _ (higher e f e.high eh_in_e (eh_in_f h) (omega (arith, ints))))

  at_fl' : left_of f.low e.low ≡ false → pos 0 <ℤ side e f.low → below e f ≡ true
  at_fl' h k =
      let i = gap-on_e e f f.low (side-lower f) in
      let m = mul_pos' (run f) (side e f.low) Rf k in
      or_right _ _ (or_right _ _ (or_left _ _ (higher e f f.low (fl_in_e h) fl_in_f (omega (arith, ints)))))

  at_fh' : left_of e.high f.high ≡ false → pos 0 <ℤ side e f.high → below e f ≡ true
  at_fh' h k =
      let i = gap-on_e e f f.high (side-upper f) in
      let m = mul_pos' (run f) (side e f.high) Rf k in
      or_right (higher_at e f e.low) _ (or_right (higher_at e f e.high) _ (or_right (higher_at e f f.low) _ (higher e f f.high (fh_in_e h) fh_in_f (omega (arith, ints)))))

  same_start : precedes f.low e.low ≡ false → precedes e.low f.low ≡ false → f.low ≡ e.low
  same_start h k = b.plane.distinct f.low e.low (b.plane.lower_in f b.F) (b.plane.lower_in e b.E) h k

  -- ---- what `is_above` says of the slab's order
  pub above_below : is_above e f ≡ true → below f e ≡ true
  above_below h =
      elim (cases_Bool (precedes f.low e.low)) [
        | inl a ↦ at_el (before_weak f.low e.low a) (under_out f e.low (sym (above_later e f a) ∙ h))
        | inr a ↦ elim (cases_Bool (precedes e.low f.low)) [
          | inl c ↦ at_fl (before_weak e.low f.low c) (over_out e f.low (sym (above_earlier e f a c) ∙ h))
          | inr c ↦
              let u = under_out f e.high (sym (above_fan e f a c) ∙ h) in
              elim (cases_Bool (left_of f.high e.high)) [
                | inr d ↦ at_eh d u
                | inl d ↦ let t = turned e f (same_start a c) in at_fh (left_of-asym _ _ d) (omega (arith, ints))
              ]
        ]
      ]

  -- both end at one point, on one line
  one_end : f.low ≡ e.low → left_of f.high e.high ≡ false → precedes e.high f.high ≡ false → side f e.high ≡ pos 0 → e ≡ f
  one_end s d n z =
      let m = not_before_left e.high f.high n in
      let k : precedes f.high e.high ≡ false = false_from_ne_true _ (λ x.
      let y = side_rises f f.high e.high fh eh Rf d m (before_on_wall f.high e.high x d) (zero_weak _ (side-upper f)) in
      absurd (omega (arith, ints))) in
      let t = b.plane.distinct e.high f.high (b.plane.upper_in e b.E) (b.plane.upper_in f b.F) n k in
      λ i. record { low = sym s i; high = t i }

  pub not_above_below : is_above e f ≡ false → (e ≡ f) ⊎ (below e f ≡ true)
  not_above_below h =
      elim (cases_Bool (precedes f.low e.low)) [
        | inl a ↦
            let u = not_under f e.low (sym (above_later e f a) ∙ h) in
            by_lt_z (side f e.low) (pos 0)
            (λ x. inr (at_el' (before_weak f.low e.low a) x))
            (λ x. absurd (never_inside g f e.low b.plane b.F (b.plane.lower_in e b.E) a (after_before e.low q f.high el b.Q fh b.from b.spanning.to) (omega (arith, ints))))
        | inr a ↦ elim (cases_Bool (precedes e.low f.low)) [
          | inl c ↦
              let u = not_over e f.low (sym (above_earlier e f a c) ∙ h) in
              by_lt_z (pos 0) (side e f.low)
              (λ x. inr (at_fl' (before_weak e.low f.low c) x))
              (λ x. absurd (never_inside g e f.low b.plane b.E (b.plane.lower_in f b.F) c (before_after f.low q e.high fl b.Q eh b.spanning.from b.to) (omega (arith, ints))))
          | inr c ↦
              let u = not_under f e.high (sym (above_fan e f a c) ∙ h) in
              let s = same_start a c in
              elim (cases_Bool (left_of f.high e.high)) [
                | inr d ↦ by_lt_z (side f e.high) (pos 0)
                    (λ x. inr (at_eh' d x))
                    (λ x. let z : side f e.high ≡ pos 0 = omega (arith, ints) in
                    elim (cases_Bool (precedes e.high f.high)) [
                      | inl k ↦ absurd (never_inside g f e.high b.plane b.F (b.plane.upper_in e b.E) (subst (λ y. precedes y e.high ≡ true) (sym s) (before_left e.low e.high long)) k z)
                      | inr k ↦ inl (one_end s d k z)
                    ])
                | inl d ↦
                    let t = turned e f s in
                    by_lt_z (pos 0) (side e f.high)
                    (λ x. inr (at_fh' (left_of-asym _ _ d) x))
                    (λ x. absurd (never_inside g e f.high b.plane b.E (b.plane.upper_in f b.F) (subst (λ y. precedes y f.high ≡ true) s (before_left f.low f.high (f_long g e f q b))) (before_left f.high e.high d) (omega (arith, ints))))
              ]
        ]
      ]

  -- ---- q's sides
  touching_low : left_of f.low e.high ≡ false → left_of f.low q ≡ false
  touching_low h = false_from_ne_true _ (λ k. false≢true (sym h ∙ left_of-before f.low q e.high fl b.Q eh k eh_q))

  touching_high : left_of e.low f.high ≡ false → (left_of e.low q ≡ false) × (left_of q f.high ≡ false)
  touching_high h = (
    false_from_ne_true _ (λ k. false≢true (sym h ∙ left_of-before e.low q f.high el b.Q fh k fh_q)),
    false_from_ne_true _ (λ k. false≢true (sym h ∙ left_of-after e.low q f.high el b.Q fh q_el k)),
  )

  passes : left_of f.low e.high ≡ true → left_of e.low f.high ≡ true → Passes f e q
  passes h k = record { f_from = q_fl; f_to = fh_q; e_from = q_el; e_to = eh_q; f_long = f_long g e f q b; e_long = long; f_e = h; e_f = k }

  passes' : left_of f.low e.high ≡ true → left_of e.low f.high ≡ true → Passes e f q
  passes' h k = record { f_from = q_el; f_to = eh_q; e_from = q_fl; e_to = fh_q; f_long = long; e_long = f_long g e f q b; f_e = k; e_f = h }

  -- f's upper end is on q's wall: f is over q
  ends_there : left_of q f.high ≡ false → side f q <ℤ pos 0
  ends_there h = over_out f q (over-upper f q fh (f_long g e f q b) fh_q h ∙ before_on_wall q f.high b.spanning.to h)

  pub slanted_above : is_above e f ≡ true → side f q <ℤ pos 0 → side e q <ℤ pos 0
  slanted_above h x =
      elim (cases_Bool (left_of f.low e.high)) [
        | inr a ↦
            let l = touching_low a in
            let y = side_rises f f.low q fl b.Q Rf l q_fl (before_on_wall f.low q b.spanning.from l) (zero_weak _ (side-lower f)) in
            absurd (omega (arith, ints))
        | inl a ↦ elim (cases_Bool (left_of e.low f.high)) [
          | inr c ↦
              let l = touching_high c in
              let w = left_of-before f.low f.high e.low fl fh el (f_long g e f q b) c in
              let u = sym (above_later e f (before_left f.low e.low w)) ∙ h in
              let lo = not_before_lower q e.low b.from l.0 in
              let hi = before_on_wall q f.high b.spanning.to l.1 in
              let o = over-upper f e.low fh (f_long g e f q b) (not_right_trans e.low q f.high el b.Q fh q_el fh_q) c ∙ lower_than-after e.low q f.high el b.Q fh lo hi in
              absurd (false≢true (sym (under_not_over f e.low u) ∙ o))
          | inl c ↦ by_lt_z (side e q) (pos 0) (λ y. y) (λ y.
              absurd (below_asym g f e b.plane b.F b.E (above_below h) (below_from e f q (passes' a c) (gap_positive e f q Re Rf (weak_over e q y) (over_in f q x)))))
        ]
      ]

  pub slanted_not_above : is_above e f ≡ false → pos 0 <ℤ side f q → pos 0 <ℤ side e q
  slanted_not_above h x =
      elim (not_above_below h) [
        | inl s ↦ subst (λ z. pos 0 <ℤ side z q) (sym s) x
        | inr k ↦ elim (cases_Bool (left_of f.low e.high)) [
          | inr a ↦
              let l = touching_low a in
              let w = left_of-before e.low e.high f.low el eh fl long a in
              let n : precedes f.low e.low ≡ false = before_asym e.low f.low (before_left e.low f.low w) in
              let v = sym (above_earlier e f n (before_left e.low f.low w)) ∙ h in
              let wall : left_of q e.high ≡ false = false_from_ne_true _ (λ y. false≢true (sym a ∙ left_of-after f.low q e.high fl b.Q eh q_fl y)) in
              let lo = before_on_wall f.low q b.spanning.from l in
              let hi = not_before_lower e.high q b.to wall in
              let o = over-upper e f.low eh long (not_right_trans f.low q e.high fl b.Q eh q_fl eh_q) a ∙ lower_than-before f.low q e.high fl b.Q eh lo hi in
              absurd (false≢true (sym v ∙ o))
          | inl a ↦ elim (cases_Bool (left_of e.low f.high)) [
            | inr c ↦ let y = ends_there (touching_high c).1 in absurd (omega (arith, ints))
            | inl c ↦ by_lt_z (pos 0) (side e q) (λ y. y) (λ y.
                absurd (below_asym g e f b.plane b.E b.F k (below_from f e q (passes a c) (wide e f q Re Rf x y))))
          ]
        ]
      ]

-- ---- for any two edges
-- where e is above f, what is below f is below e
pub stays_above : (g : Skeleton) (e f : Edge) (q : Point) → IsBeside g e f q → is_above e f ≡ true → side f q <ℤ pos 0 → side e q <ℤ pos 0
stays_above g e f q b h x =
    elim (cases_Bool (left_of e.low e.high)) [
      | inl l ↦ slanted_above g e f q b l h x
      | inr l ↦ let y = upright_above g e f q b l h in absurd (omega (arith, ints))
    ]

-- where it isn't, what is above f is above e
pub stays_below : (g : Skeleton) (e f : Edge) (q : Point) → IsBeside g e f q → is_above e f ≡ false → pos 0 <ℤ side f q → (pos 0 <ℤ side e q) × ((e ≡ f) ⊎ (below e f ≡ true))
stays_below g e f q b h x =
    elim (cases_Bool (left_of e.low e.high)) [
      | inl l ↦ (slanted_not_above g e f q b l h x, not_above_below g e f q b l h)
      | inr l ↦ absurd (upright_not_above g e f q b l h x)
    ]

-- where it is, and both span q below it, f is below e in q's slab
pub stacked : (g : Skeleton) (e f : Edge) (q : Point) → IsBeside g e f q → is_above e f ≡ true → IsSpanning e q → under e q ≡ true → below f e ≡ true
stacked g e f q b h s u =
    let p = b.plane.proper_edge e b.E in above_below g e f q b (slanted_below e q p.0 p.1 b.Q s u) h

pub edges_keep_sides : EdgesKeepSides
edges_keep_sides = record { below_both = stays_above; above_both = stays_below; stacked = stacked }
