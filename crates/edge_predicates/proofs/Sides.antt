-- The side of a point by an edge's ends and by the edge's line.
use Rattle.std.proofs.Common.{◌≡◌, Bool, true, false, arith, refl, sym, ap, ◌∙◌, inl, inr, [], ◌∷◌, Ordering, Less, Equal, Greater}
use Rattle.std.specs.Prelude.{ℤ, pos, ◌+ℤ◌, ◌-ℤ◌, ◌*ℤ◌, ◌<ℤ◌, neg_ℤ, not, ◌&&◌}
use Rattle.std.specs.Ordering.{int_cmp, int_eq, is_lt, is_eq, is_gt}
use Rattle.std.proofs.lemmas.Int.{ints}
use lib.Signed.{lt_z}
use Rattle.integers.proofs.Compare.{less_out, less_in, equal_out, equal_in, greater_out, same_cmp}
use Rattle.integers.proofs.Reify.{ring, sides}
use Rattle.integers.proofs.Tests.{lt_yes, lt_no, zero_below, zero_above}
use Rattle.exact_plane.specs.Point.{Point}
use Rattle.exact_plane.specs.Line.{side_of}
use Rattle.exact_plane.specs.Sign.{sign_by, sign_of}
use Rattle.exact_plane.specs.Span.{Span, IsSpan}
use Rattle.exact_plane.specs.declared.sides.Sign.{Sign}
use Rattle.exact_plane.specs.declared.sides.Sign.TheVariants.{Minus, Zero, Plus}
use Rattle.plane_graphs.proofs.Crossings.{spans_w, spans_x, spans_y}
use Rattle.exact_plane.specs.Plane.{RunsForward}
use Rattle.plane_graphs.proofs.Lines.{point_is_proper, span_a, span_b, span_c, span_runs}
use Rattle.slab_laws.specs.Skeleton.{left_of, lower_than, on_wall, precedes, run, side, over, under, inside}
use Rattle.slab_laws.specs.SpansDrawn.{edge_of}
use Rattle.slab_faces.proofs.Ints.{times_mixed}

-- ---- tests of integers

pub less_is : (a b : ℤ) → is_lt (int_cmp a b) ≡ lt_z a b
less_is a b = go (int_cmp a b) refl
  where
    go : (o : Ordering) → int_cmp a b ≡ o → is_lt o ≡ lt_z a b
    go Less e = sym (lt_yes a b (less_out a b e))
    go Equal e = let f = equal_out a b e in sym (lt_no a b (λ h. omega (arith, ints)))
    go Greater e = let f = greater_out a b e in sym (lt_no a b (λ h. omega (arith, ints)))

pub greater_is : (a b : ℤ) → is_gt (int_cmp a b) ≡ lt_z b a
greater_is a b = go (int_cmp a b) refl
  where
    go : (o : Ordering) → int_cmp a b ≡ o → is_gt o ≡ lt_z b a
    go Less e = let f = less_out a b e in sym (lt_no b a (λ h. omega (arith, ints)))
    go Equal e = let f = equal_out a b e in sym (lt_no b a (λ h. omega (arith, ints)))
    go Greater e = sym (lt_yes b a (greater_out a b e))

-- ---- coordinates
pub left_of_by : (p q : Point) (r : Ordering) → r ≡ int_cmp (p.x *ℤ q.w) (q.x *ℤ p.w) → is_lt r ≡ left_of p q
unfolding left_of
left_of_by p q r e = ap is_lt e ∙ less_is (p.x *ℤ q.w) (q.x *ℤ p.w)

pub lower_than_by : (p q : Point) (r : Ordering) → r ≡ int_cmp (p.y *ℤ q.w) (q.y *ℤ p.w) → is_lt r ≡ lower_than p q
unfolding lower_than
lower_than_by p q r e = ap is_lt e ∙ less_is (p.y *ℤ q.w) (q.y *ℤ p.w)

-- where two points stand, by the order of their abscissas
module _ (p q : Point) where
  pub left_of_less : int_cmp (p.x *ℤ q.w) (q.x *ℤ p.w) ≡ Less → left_of p q ≡ true
  left_of_less e = sym (left_of_by p q Less (sym e))

  pub left_of_equal : int_cmp (p.x *ℤ q.w) (q.x *ℤ p.w) ≡ Equal → (left_of p q ≡ false) × (left_of q p ≡ false)
  left_of_equal e =
      let f : q.x *ℤ p.w ≡ p.x *ℤ q.w = sym (equal_out (p.x *ℤ q.w) (q.x *ℤ p.w) e) in
      (sym (left_of_by p q Equal (sym e)), sym (left_of_by q p Equal (sym (equal_in (q.x *ℤ p.w) (p.x *ℤ q.w) f))))

  pub left_of_greater : int_cmp (p.x *ℤ q.w) (q.x *ℤ p.w) ≡ Greater → (left_of p q ≡ false) × (left_of q p ≡ true)
  left_of_greater e =
      let f : (q.x *ℤ p.w) <ℤ (p.x *ℤ q.w) = greater_out (p.x *ℤ q.w) (q.x *ℤ p.w) e in
      (sym (left_of_by p q Greater (sym e)), sym (left_of_by q p Less (sym (less_in (q.x *ℤ p.w) (p.x *ℤ q.w) f))))

  pub on_wall_by : (r : Ordering) → r ≡ int_cmp (p.x *ℤ q.w) (q.x *ℤ p.w) → is_eq r ≡ on_wall p q
  on_wall_by Less e = let f = left_of_less (sym e) in rw f refl
  on_wall_by Equal e = let f = left_of_equal (sym e) in rw (f.0, f.1) refl
  on_wall_by Greater e = let f = left_of_greater (sym e) in rw (f.0, f.1) refl

  pub precedes_less : int_cmp (p.x *ℤ q.w) (q.x *ℤ p.w) ≡ Less → true ≡ precedes p q
  precedes_less e = let f = left_of_less e in rw f refl

  pub precedes_equal : int_cmp (p.x *ℤ q.w) (q.x *ℤ p.w) ≡ Equal → lower_than p q ≡ precedes p q
  precedes_equal e = let f = left_of_equal e in rw (f.0, f.1) refl

  pub precedes_greater : int_cmp (p.x *ℤ q.w) (q.x *ℤ p.w) ≡ Greater → false ≡ precedes p q
  precedes_greater e = let f = left_of_greater e in rw (f.0, f.1) refl

-- ---- one line in two triples of numbers, in proportion
module _ (a b c A B C X Y W : ℤ) where
  by_runs : a *ℤ B -ℤ A *ℤ b ≡ pos 0 → b *ℤ C -ℤ B *ℤ c ≡ pos 0 → (pos 0 -ℤ (A *ℤ X +ℤ B *ℤ Y +ℤ C *ℤ W)) *ℤ b ≡ (pos 0 -ℤ (a *ℤ X +ℤ b *ℤ Y +ℤ c *ℤ W)) *ℤ B
  by_runs e f =
      ring (a ∷ b ∷ c ∷ A ∷ B ∷ C ∷ X ∷ Y ∷ W ∷ []) (search sides depth 40 fits 20000) tt
      ∙ (λ i. (pos 0 -ℤ (a *ℤ X +ℤ b *ℤ Y +ℤ c *ℤ W)) *ℤ B +ℤ (X *ℤ e i -ℤ W *ℤ f i))
      ∙ ring (a ∷ b ∷ c ∷ B ∷ X ∷ Y ∷ W ∷ []) (search sides depth 40 fits 20000) tt

  by_falls : a *ℤ B -ℤ A *ℤ b ≡ pos 0 → c *ℤ A -ℤ C *ℤ a ≡ pos 0 → (pos 0 -ℤ (A *ℤ X +ℤ B *ℤ Y +ℤ C *ℤ W)) *ℤ neg_ℤ a ≡ (pos 0 -ℤ (a *ℤ X +ℤ b *ℤ Y +ℤ c *ℤ W)) *ℤ neg_ℤ A
  by_falls e f =
      ring (a ∷ b ∷ c ∷ A ∷ B ∷ C ∷ X ∷ Y ∷ W ∷ []) (search sides depth 40 fits 20000) tt
      ∙ (λ i. (pos 0 -ℤ (a *ℤ X +ℤ b *ℤ Y +ℤ c *ℤ W)) *ℤ neg_ℤ A +ℤ (Y *ℤ e i -ℤ W *ℤ f i))
      ∙ ring (a ∷ b ∷ c ∷ A ∷ X ∷ Y ∷ W ∷ []) (search sides depth 40 fits 20000) tt

-- which of the two runs to the right, and which falls, is the same
run_too : (a b A B : ℤ) → a *ℤ B -ℤ A *ℤ b ≡ pos 0 → pos 0 <ℤ b → RunsForward A B → pos 0 <ℤ B
run_too a b A B e h (inl k) = k
run_too a b A B e h (inr k) = absurd (let m = times_mixed A b k.1 h in let z : a *ℤ B ≡ pos 0 = ap (λ x. a *ℤ x) k.0 ∙ ring (a ∷ []) (search sides depth 40 fits 20000) tt in omega (arith, ints))

fall_too : (a b A B : ℤ) → a *ℤ B -ℤ A *ℤ b ≡ pos 0 → b ≡ pos 0 → a <ℤ pos 0 → RunsForward A B → A <ℤ pos 0
fall_too a b A B e z h (inr k) = k.1
fall_too a b A B e z h (inl k) = absurd (let m = times_mixed a B h k in let y : A *ℤ b ≡ pos 0 = ap (λ x. A *ℤ x) z ∙ ring (A ∷ []) (search sides depth 40 fits 20000) tt in omega (arith, ints))

-- ---- the side of a point
module _ (s : Span) (is : IsSpan s) where
  abbrev A : ℤ
  A = span_a s.lower s.upper

  abbrev B : ℤ
  B = span_b s.lower s.upper

  abbrev C : ℤ
  C = span_c s.lower s.upper

  across : s.line.a *ℤ B -ℤ A *ℤ s.line.b ≡ pos 0
  across = spans_w s.line.a s.line.b s.line.c s.lower.x s.lower.y s.lower.w s.upper.x s.upper.y s.upper.w is.way.lower_on is.way.upper_on

  runs : RunsForward A B
  runs = span_runs s.lower s.upper (point_is_proper s.lower is.lower) (point_is_proper s.upper is.upper) (record { is = is.way.ascending })

  line_runs : RunsForward s.line.a s.line.b
  line_runs = go (int_cmp (pos 0) s.line.b) refl
    where
      go : (o : Ordering) → int_cmp (pos 0) s.line.b ≡ o → RunsForward s.line.a s.line.b
      go Less e = inl (less_out (pos 0) s.line.b e)
      go Equal e = let z : s.line.b ≡ pos 0 = sym (equal_out (pos 0) s.line.b e) in inr (z, is.line.runs.upward z)
      go Greater e = absurd (let f = greater_out (pos 0) s.line.b e in let g = is.line.runs.forward in omega (arith, ints))

  pub line_run_is : pos 0 <ℤ run (edge_of s) → pos 0 <ℤ s.line.b
  unfolding run
  line_run_is h = run_too A B s.line.a s.line.b (turned across) h line_runs
    where
      turned : s.line.a *ℤ B -ℤ A *ℤ s.line.b ≡ pos 0 → A *ℤ s.line.b -ℤ s.line.a *ℤ B ≡ pos 0
      turned e = omega (arith, ints)

  pub side_same : (t : Point) → int_cmp (side (edge_of s) t) (pos 0) ≡ int_cmp (side_of s.line t) (pos 0)
  unfolding side
  side_same t = go line_runs
    where
      go : RunsForward s.line.a s.line.b → int_cmp (A *ℤ t.x +ℤ B *ℤ t.y +ℤ C *ℤ t.w) (pos 0) ≡ int_cmp (side_of s.line t) (pos 0)
      go (inl h) =
          same_cmp (A *ℤ t.x +ℤ B *ℤ t.y +ℤ C *ℤ t.w) (pos 0) (side_of s.line t) (pos 0) h (run_too s.line.a s.line.b A B across h runs)
          (by_runs s.line.a s.line.b s.line.c A B C t.x t.y t.w across (spans_x s.line.a s.line.b s.line.c s.lower.x s.lower.y s.lower.w s.upper.x s.upper.y s.upper.w is.way.lower_on is.way.upper_on))
      go (inr h) =
          let f = fall_too s.line.a s.line.b A B across h.0 h.1 runs in
          let n = h.1 in
          same_cmp (A *ℤ t.x +ℤ B *ℤ t.y +ℤ C *ℤ t.w) (pos 0) (side_of s.line t) (pos 0) {k = neg_ℤ s.line.a} {m = neg_ℤ A} (omega (arith, ints)) (omega (arith, ints))
          (by_falls s.line.a s.line.b s.line.c A B C t.x t.y t.w across (spans_y s.line.a s.line.b s.line.c s.lower.x s.lower.y s.lower.w s.upper.x s.upper.y s.upper.w is.way.lower_on is.way.upper_on))

pub sign_same : (s : Span) (t : Point) (r : Sign) → IsSpan s → r ≡ sign_of (side_of s.line t) → r ≡ sign_of (side (edge_of s) t)
sign_same s t r is e = e ∙ ap sign_by (sym (side_same s is t))

-- ---- what a sign tells
module _ (z : ℤ) where
  signs : (o : Ordering) → int_cmp z (pos 0) ≡ o → sign_of z ≡ sign_by o
  signs o e = ap sign_by e

  pub below_zero : sign_of z ≡ Minus → lt_z z (pos 0) ≡ true
  below_zero e = go (int_cmp z (pos 0)) refl
    where
      go : (o : Ordering) → int_cmp z (pos 0) ≡ o → lt_z z (pos 0) ≡ true
      go Less f = lt_yes z (pos 0) (less_out z (pos 0) f)
      go Equal f = let g = sym (signs Equal f) ∙ e in cc
      go Greater f = let g = sym (signs Greater f) ∙ e in cc

  pub at_zero : sign_of z ≡ Zero → z ≡ pos 0
  at_zero e = go (int_cmp z (pos 0)) refl
    where
      go : (o : Ordering) → int_cmp z (pos 0) ≡ o → z ≡ pos 0
      go Less f = let g = sym (signs Less f) ∙ e in cc
      go Equal f = equal_out z (pos 0) f
      go Greater f = let g = sym (signs Greater f) ∙ e in cc

  pub above_zero : sign_of z ≡ Plus → lt_z (pos 0) z ≡ true
  above_zero e = go (int_cmp z (pos 0)) refl
    where
      go : (o : Ordering) → int_cmp z (pos 0) ≡ o → lt_z (pos 0) z ≡ true
      go Less f = let g = sym (signs Less f) ∙ e in cc
      go Equal f = let g = sym (signs Equal f) ∙ e in cc
      go Greater f = lt_yes (pos 0) z (greater_out z (pos 0) f)

  pub not_below : lt_z (pos 0) z ≡ true → lt_z z (pos 0) ≡ false
  not_below h = lt_no z (pos 0) (λ k. omega (arith, ints))

  pub not_above : lt_z z (pos 0) ≡ true → lt_z (pos 0) z ≡ false
  not_above h = lt_no (pos 0) z (λ k. omega (arith, ints))

-- the test for each sign
abbrev pub is_minus : Sign → Bool
is_minus Minus = true
is_minus Zero = false
is_minus Plus = false

abbrev pub is_plus : Sign → Bool
is_plus Minus = false
is_plus Zero = false
is_plus Plus = true

-- a number that is neither below 0 nor above it
abbrev pub is_zero : Sign → Bool
is_zero Minus = false
is_zero Zero = true
is_zero Plus = false

pub zero_is : (r : Sign) → is_zero r ≡ (not (is_minus r) && not (is_plus r))
zero_is Minus = refl
zero_is Zero = refl
zero_is Plus = refl

pub minus_is : (z : ℤ) (r : Sign) → r ≡ sign_of z → is_minus r ≡ lt_z z (pos 0)
minus_is z Minus e = sym (below_zero z (sym e))
minus_is z Zero e = sym (zero_below z (at_zero z (sym e)))
minus_is z Plus e = sym (not_below z (above_zero z (sym e)))

pub plus_is : (z : ℤ) (r : Sign) → r ≡ sign_of z → is_plus r ≡ lt_z (pos 0) z
plus_is z Minus e = sym (not_above z (below_zero z (sym e)))
plus_is z Zero e = sym (zero_above z (at_zero z (sym e)))
plus_is z Plus e = sym (above_zero z (sym e))

pub over_by : (s : Span) (t : Point) (r : Sign) → r ≡ sign_of (side (edge_of s) t) → is_minus r ≡ over (edge_of s) t
unfolding over
over_by s t r e = minus_is (side (edge_of s) t) r e

pub under_by : (s : Span) (t : Point) (r : Sign) → r ≡ sign_of (side (edge_of s) t) → is_plus r ≡ under (edge_of s) t
unfolding under
under_by s t r e = plus_is (side (edge_of s) t) r e

pub on_line_by : (s : Span) (t : Point) (r : Sign) → r ≡ sign_of (side (edge_of s) t) → is_zero r ≡ (not (over (edge_of s) t) && not (under (edge_of s) t))
on_line_by s t r e = zero_is r ∙ (λ i. not (over_by s t r e i) && not (under_by s t r e i))

-- the same, told by the edge's line
zero_by : (o : Ordering) → is_eq o ≡ is_zero (sign_by o)
zero_by Less = refl
zero_by Equal = refl
zero_by Greater = refl

pub on_line_is : (s : Span) (t : Point) → IsSpan s → int_eq (side_of s.line t) (pos 0) ≡ (not (over (edge_of s) t) && not (under (edge_of s) t))
on_line_is s t is = zero_by (int_cmp (side_of s.line t) (pos 0)) ∙ on_line_by s t _ (sign_same s t _ is refl)

-- a point inside an edge is between its ends, and the edge passes neither over nor under it
pub inside_by : (s : Span) (t : Point) (a b : Bool) → a ≡ (precedes s.lower t && precedes t s.upper) → b ≡ (not (over (edge_of s) t) && not (under (edge_of s) t)) → (a && b) ≡ inside (edge_of s) t
unfolding over under
inside_by s t a b e f = λ i. e i && f i
