-- The order of abscissas, and where an edge passes a wall on which one of its ends lies.
use Rattle.std.proofs.Common.{◌≡◌, true, false, arith, sym, ◌∙◌}
use Rattle.std.specs.Prelude.{ℤ, pos, ◌+ℤ◌, ◌-ℤ◌, ◌*ℤ◌, ◌<ℤ◌, ◌≤ℤ◌, not}
use Rattle.std.proofs.lemmas.Int.{ints, by_lt_z}
use Rattle.std.proofs.lemmas.Bool.{false≢true, and_parts, not-true, false_from_ne_true}
use lib.IntN.{*ℤ-zero}
use Rattle.exact_plane.specs.Point.{Point}
use Rattle.plane_graphs.specs.Graph.{Edge}
use Rattle.slab_laws.specs.Skeleton.{HasWeight, left_of, lower_than, on_wall, run, side, over}
use Rattle.slab_faces.proofs.Ints.{as_dif, dif_add, dif_sub, dif_mul, dif_same, dif_zero, times_less, times_at_most, less_back, same_sign, lt_z-sub}
use Rattle.integers.proofs.Signs.{mul_pos'}

-- ---- fractions
frac_trans_le_lt : (a b c d e f : ℤ) → pos 0 <ℤ b → pos 0 <ℤ d → pos 0 <ℤ f → (a *ℤ d) ≤ℤ (c *ℤ b) → (c *ℤ f) <ℤ (e *ℤ d) → (a *ℤ f) <ℤ (e *ℤ b)
frac_trans_le_lt a b c d e f B D F p q =
    let p' = times_at_most f (a *ℤ d) (c *ℤ b) F p in
    let q' = times_less b (c *ℤ f) (e *ℤ d) B q in
    let k1 : f *ℤ (a *ℤ d) ≡ d *ℤ (a *ℤ f) = turn f a d in
    let k2 : f *ℤ (c *ℤ b) ≡ b *ℤ (c *ℤ f) = turn f c b in
    let k3 : b *ℤ (e *ℤ d) ≡ d *ℤ (e *ℤ b) = turn b e d in
    less_back d (a *ℤ f) (e *ℤ b) D (omega (arith, ints))
  where
    turn : (f a d : ℤ) → f *ℤ (a *ℤ d) ≡ d *ℤ (a *ℤ f)
    turn a b c = rw (as_dif a, as_dif b, as_dif c) (simp (dif_add, dif_sub, dif_mul) (dif_same _ _ _ _ (omega arith)))

frac_trans_lt_le : (a b c d e f : ℤ) → pos 0 <ℤ b → pos 0 <ℤ d → pos 0 <ℤ f → (a *ℤ d) <ℤ (c *ℤ b) → (c *ℤ f) ≤ℤ (e *ℤ d) → (a *ℤ f) <ℤ (e *ℤ b)
frac_trans_lt_le a b c d e f B D F p q =
    let p' = times_less f (a *ℤ d) (c *ℤ b) F p in
    let q' = times_at_most b (c *ℤ f) (e *ℤ d) B q in
    let k1 : f *ℤ (a *ℤ d) ≡ d *ℤ (a *ℤ f) = turn f a d in
    let k2 : f *ℤ (c *ℤ b) ≡ b *ℤ (c *ℤ f) = turn f c b in
    let k3 : b *ℤ (e *ℤ d) ≡ d *ℤ (e *ℤ b) = turn b e d in
    less_back d (a *ℤ f) (e *ℤ b) D (omega (arith, ints))
  where
    turn : (f a d : ℤ) → f *ℤ (a *ℤ d) ≡ d *ℤ (a *ℤ f)
    turn a b c = rw (as_dif a, as_dif b, as_dif c) (simp (dif_add, dif_sub, dif_mul) (dif_same _ _ _ _ (omega arith)))

pub left_of-asym : (p q : Point) → left_of p q ≡ true → left_of q p ≡ false
unfolding left_of
left_of-asym p q h = sym (omega (arith, ints))

-- p < q ≤ r
pub left_of-before : (p q r : Point) → HasWeight p → HasWeight q → HasWeight r → left_of p q ≡ true → left_of r q ≡ false → left_of p r ≡ true
unfolding left_of
left_of-before p q r P Q R h k =
    let a : (p.x *ℤ r.w) <ℤ (r.x *ℤ p.w) = frac_trans_lt_le p.x p.w q.x q.w r.x r.w P Q R (omega (arith, ints)) (omega (arith, ints)) in
    sym (omega (arith, ints))

-- p ≤ q < r
pub left_of-after : (p q r : Point) → HasWeight p → HasWeight q → HasWeight r → left_of q p ≡ false → left_of q r ≡ true → left_of p r ≡ true
unfolding left_of
left_of-after p q r P Q R h k =
    let a : (p.x *ℤ r.w) <ℤ (r.x *ℤ p.w) = frac_trans_le_lt p.x p.w q.x q.w r.x r.w P Q R (omega (arith, ints)) (omega (arith, ints)) in
    sym (omega (arith, ints))

pub lower_than-before : (p q r : Point) → HasWeight p → HasWeight q → HasWeight r → lower_than p q ≡ true → lower_than r q ≡ false → lower_than p r ≡ true
unfolding lower_than
lower_than-before p q r P Q R h k =
    let a : (p.y *ℤ r.w) <ℤ (r.y *ℤ p.w) = frac_trans_lt_le p.y p.w q.y q.w r.y r.w P Q R (omega (arith, ints)) (omega (arith, ints)) in
    sym (omega (arith, ints))

-- ---- a line through an end on the wall
pub on_line : (a b c X Y W X' Y' W' : ℤ) → a *ℤ X +ℤ b *ℤ Y +ℤ c *ℤ W ≡ pos 0 → X' *ℤ W -ℤ X *ℤ W' ≡ pos 0 → W *ℤ (a *ℤ X' +ℤ b *ℤ Y' +ℤ c *ℤ W') ≡ b *ℤ (Y' *ℤ W -ℤ Y *ℤ W')
on_line a b c X Y W X' Y' W' e f =
    let i = ring a b c X Y W X' Y' W' in
    let i' = rw (e, f, *ℤ-zero, *ℤ-zero) at i in
    omega (arith, ints)
  where
    ring : (a b c X Y W X' Y' W' : ℤ) → W *ℤ (a *ℤ X' +ℤ b *ℤ Y' +ℤ c *ℤ W') ≡ b *ℤ (Y' *ℤ W -ℤ Y *ℤ W') +ℤ (a *ℤ (X' *ℤ W -ℤ X *ℤ W') +ℤ W' *ℤ (a *ℤ X +ℤ b *ℤ Y +ℤ c *ℤ W))
    ring a b c d e f g h i = rw (as_dif a, as_dif b, as_dif c, as_dif d, as_dif e, as_dif f, as_dif g, as_dif h, as_dif i) (simp (dif_add, dif_sub, dif_mul) (dif_same _ _ _ _ (omega arith)))

at_upper : (a b c d e f : ℤ) → (b *ℤ f -ℤ e *ℤ c) *ℤ d +ℤ (d *ℤ c -ℤ a *ℤ f) *ℤ e +ℤ (a *ℤ e -ℤ d *ℤ b) *ℤ f ≡ pos 0
at_upper a b c d e f = rw (as_dif a, as_dif b, as_dif c, as_dif d, as_dif e, as_dif f) (simp (dif_add, dif_sub, dif_mul) (dif_zero _ _ (omega arith)))

at_lower : (a b c d e f : ℤ) → (b *ℤ f -ℤ e *ℤ c) *ℤ a +ℤ (d *ℤ c -ℤ a *ℤ f) *ℤ b +ℤ (a *ℤ e -ℤ d *ℤ b) *ℤ c ≡ pos 0
at_lower a b c d e f = rw (as_dif a, as_dif b, as_dif c, as_dif d, as_dif e, as_dif f) (simp (dif_add, dif_sub, dif_mul) (dif_zero _ _ (omega arith)))

pub side-upper : (e : Edge) → side e e.high ≡ pos 0
unfolding side
side-upper e = at_upper e.low.x e.low.y e.low.w e.high.x e.high.y e.high.w

pub side-lower : (e : Edge) → side e e.low ≡ pos 0
unfolding side
side-lower e = at_lower e.low.x e.low.y e.low.w e.high.x e.high.y e.high.w

pub on_wall_parts : (v t : Point) → on_wall v t ≡ true → (left_of v t ≡ false) × (left_of t v ≡ false)
on_wall_parts v t h =
    let a = and_parts (not (left_of v t)) (not (left_of t v)) h in (not-true (left_of v t) a.0, not-true (left_of t v) a.1)

-- two points on the wall of t are on one wall
pub level_walls : (a b t : Point) → HasWeight a → HasWeight b → HasWeight t → on_wall a t ≡ true → on_wall b t ≡ true → (left_of a b ≡ false) × (left_of b a ≡ false)
level_walls a b t A B T x y =
    let p = on_wall_parts a t x in
    let q = on_wall_parts b t y in
    (false_from_ne_true (left_of a b) (λ k. false≢true (sym q.1 ∙ left_of-after t a b T A B p.0 k)), false_from_ne_true (left_of b a) (λ k. false≢true (sym p.1 ∙ left_of-after t b a T B A q.0 k)))

pub same_abscissa : (v t : Point) → left_of v t ≡ false → left_of t v ≡ false → t.x *ℤ v.w -ℤ v.x *ℤ t.w ≡ pos 0
unfolding left_of
same_abscissa v t a b = omega (arith, ints)

pub run_positive : (e : Edge) → left_of e.low e.high ≡ true → pos 0 <ℤ run e
unfolding left_of run
run_positive e h = omega (arith, ints)

-- where an end of the edge lies on t's wall, the edge is over t as that end is higher than t
pub over-upper : (e : Edge) (t : Point) → HasWeight e.high → left_of e.low e.high ≡ true → left_of e.high t ≡ false → left_of t e.high ≡ false → over e t ≡ lower_than t e.high
unfolding over lower_than side run
over-upper e t P h a b =
    let q = e.high in
    let p = e.low in
    let i = on_line (p.y *ℤ q.w -ℤ q.y *ℤ p.w) (q.x *ℤ p.w -ℤ p.x *ℤ q.w) (p.x *ℤ q.y -ℤ q.x *ℤ p.y) q.x q.y q.w t.x t.y t.w (side-upper e) (same_abscissa q t a b) in
    same_sign q.w (side e t) (run e) (t.y *ℤ q.w -ℤ q.y *ℤ t.w) P (run_positive e h) i ∙ lt_z-sub (t.y *ℤ q.w) (q.y *ℤ t.w)

pub over-lower : (e : Edge) (t : Point) → HasWeight e.low → left_of e.low e.high ≡ true → left_of e.low t ≡ false → left_of t e.low ≡ false → over e t ≡ lower_than t e.low
unfolding over lower_than side run
over-lower e t P h a b =
    let q = e.high in
    let p = e.low in
    let i = on_line (p.y *ℤ q.w -ℤ q.y *ℤ p.w) (q.x *ℤ p.w -ℤ p.x *ℤ q.w) (p.x *ℤ q.y -ℤ q.x *ℤ p.y) p.x p.y p.w t.x t.y t.w (side-lower e) (same_abscissa p t a b) in
    same_sign p.w (side e t) (run e) (t.y *ℤ p.w -ℤ p.y *ℤ t.w) P (run_positive e h) i ∙ lt_z-sub (t.y *ℤ p.w) (p.y *ℤ t.w)

pub lower_than-asym : (p q : Point) → lower_than p q ≡ true → lower_than q p ≡ false
unfolding lower_than
lower_than-asym p q h = sym (omega (arith, ints))

pub left_of-irrefl : (p : Point) → left_of p p ≡ false
unfolding left_of
left_of-irrefl p = sym (omega (arith, ints))

pub lower_than-irrefl : (p : Point) → lower_than p p ≡ false
unfolding lower_than
lower_than-irrefl p = sym (omega (arith, ints))

pub lower_than-after : (p q r : Point) → HasWeight p → HasWeight q → HasWeight r → lower_than q p ≡ false → lower_than q r ≡ true → lower_than p r ≡ true
unfolding lower_than
lower_than-after p q r P Q R h k =
    let a : (p.y *ℤ r.w) <ℤ (r.y *ℤ p.w) = frac_trans_le_lt p.y p.w q.y q.w r.y r.w P Q R (omega (arith, ints)) (omega (arith, ints)) in
    sym (omega (arith, ints))

-- of two points of a wall the edge's side grows with the height
climb : (a b c X Y W X' Y' W' : ℤ) → X' *ℤ W -ℤ X *ℤ W' ≡ pos 0 → W *ℤ (a *ℤ X' +ℤ b *ℤ Y' +ℤ c *ℤ W') ≡ W' *ℤ (a *ℤ X +ℤ b *ℤ Y +ℤ c *ℤ W) +ℤ b *ℤ (Y' *ℤ W -ℤ Y *ℤ W')
climb a b c X Y W X' Y' W' e =
    let i = ring a b c X Y W X' Y' W' in
    let i' = rw (e, *ℤ-zero) at i in
    omega (arith, ints)
  where
    ring : (a b c X Y W X' Y' W' : ℤ) → W *ℤ (a *ℤ X' +ℤ b *ℤ Y' +ℤ c *ℤ W') ≡ W' *ℤ (a *ℤ X +ℤ b *ℤ Y +ℤ c *ℤ W) +ℤ b *ℤ (Y' *ℤ W -ℤ Y *ℤ W') +ℤ a *ℤ (X' *ℤ W -ℤ X *ℤ W')
    ring a b c d e f g h i = rw (as_dif a, as_dif b, as_dif c, as_dif d, as_dif e, as_dif f, as_dif g, as_dif h, as_dif i) (simp (dif_add, dif_sub, dif_mul) (dif_same _ _ _ _ (omega arith)))

pub side_rises : (e : Edge) (u v : Point) → HasWeight u → HasWeight v → pos 0 <ℤ run e → left_of u v ≡ false → left_of v u ≡ false → lower_than u v ≡ true → pos 0 ≤ℤ side e u → pos 0 <ℤ side e v
unfolding side run lower_than
side_rises e u v U V R a b h k =
    let q = e.high in
    let p = e.low in
    let i = climb (p.y *ℤ q.w -ℤ q.y *ℤ p.w) (q.x *ℤ p.w -ℤ p.x *ℤ q.w) (p.x *ℤ q.y -ℤ q.x *ℤ p.y) u.x u.y u.w v.x v.y v.w (same_abscissa u v a b) in
    let l = times_at_most v.w (pos 0) (side e u) V k in
    let z = *ℤ-zero v.w in
    let z' = *ℤ-zero u.w in
    let m = mul_pos' (run e) (v.y *ℤ u.w -ℤ u.y *ℤ v.w) R (omega (arith, ints)) in
    less_back u.w (pos 0) (side e v) U (omega (arith, ints))

pub side_keeps : (e : Edge) (u v : Point) → HasWeight u → HasWeight v → pos 0 <ℤ run e → left_of u v ≡ false → left_of v u ≡ false → lower_than v u ≡ false → pos 0 ≤ℤ side e u → pos 0 ≤ℤ side e v
unfolding side run lower_than
side_keeps e u v U V R a b h k =
    let q = e.high in
    let p = e.low in
    let i = climb (p.y *ℤ q.w -ℤ q.y *ℤ p.w) (q.x *ℤ p.w -ℤ p.x *ℤ q.w) (p.x *ℤ q.y -ℤ q.x *ℤ p.y) u.x u.y u.w v.x v.y v.w (same_abscissa u v a b) in
    let l = times_at_most v.w (pos 0) (side e u) V k in
    let z = *ℤ-zero v.w in
    let z' = *ℤ-zero u.w in
    let z'' = *ℤ-zero (run e) in
    let m = times_at_most (run e) (pos 0) (v.y *ℤ u.w -ℤ u.y *ℤ v.w) R (omega (arith, ints)) in
    by_lt_z (side e v) (pos 0) (λ n. let o = times_less u.w (side e v) (pos 0) U n in absurd (omega (arith, ints))) (λ n. n)
