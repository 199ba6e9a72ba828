-- Three points of one line: their triangle is flat, and a flat triangle has its third point on the line of the others.
use Rattle.std.proofs.Common.{◌≡◌, arith, ◌∙◌, inl, inr, [], ◌∷◌}
use Rattle.std.specs.Prelude.{ℤ, pos, ◌+ℤ◌, ◌-ℤ◌, ◌*ℤ◌, ◌<ℤ◌}
use Rattle.std.proofs.lemmas.Int.{ints}
use Rattle.integers.proofs.Reify.{ring, sides}
use Rattle.exact_plane.specs.Line.{Line, side_of, IsOn}
use Rattle.exact_plane.specs.Plane.{RunsForward}
use Rattle.exact_plane.specs.Point.{Point}
use Rattle.exact_plane.proofs.Crossings.{parallel_share, same_line}
use Rattle.plane_graphs.proofs.Lines.{span_a, span_b, span_runs}
use Rattle.plane_graphs.specs.Line.{IsProper, IsProperLine}
use Rattle.plane_graphs.proofs.Crossings.{spans_w}
use Rattle.plane_graphs.proofs.Order.{Lt}
use Rattle.slab_faces.proofs.Ints.{zero_back}
use Rattle.slab_laws.specs.Skeleton.{side}
use Rattle.sound_changes.proofs.SplitCases.{edge_of_ends}

pub turned : (a s : ℤ) → a *ℤ s ≡ pos 0 → (pos 0 -ℤ a) *ℤ s ≡ pos 0
turned a s e = ring (a ∷ s ∷ []) (search sides depth 40 fits 20000) tt ∙ (λ i. pos 0 -ℤ e i)

pub above : (a : ℤ) → a <ℤ pos 0 → pos 0 <ℤ (pos 0 -ℤ a)
above a h = omega (arith, ints)

-- a number that both numbers of a direction turn to nothing is nothing
pub only_nothing : (a b s : ℤ) → RunsForward a b → a *ℤ s ≡ pos 0 → b *ℤ s ≡ pos 0 → s ≡ pos 0
only_nothing a b s (inl h) e f = zero_back b s h f
only_nothing a b s (inr h) e f = zero_back (pos 0 -ℤ a) s (above a h.1) (turned a s e)

nothings : (x y z : ℤ) → pos 0 *ℤ x +ℤ pos 0 *ℤ y +ℤ pos 0 *ℤ z ≡ pos 0
nothings x y z = ring (x ∷ y ∷ z ∷ []) (search sides depth 40 fits 20000) tt

no_rest : (x y z : ℤ) → x *ℤ pos 0 -ℤ (pos 0 *ℤ y +ℤ pos 0 *ℤ z) ≡ pos 0
no_rest x y z = ring (x ∷ y ∷ z ∷ []) (search sides depth 40 fits 20000) tt

module _ (k l m a b c d e f x y z : ℤ) where
  abbrev at : ℤ → ℤ → ℤ → ℤ
  at p q r = k *ℤ p +ℤ l *ℤ q +ℤ m *ℤ r

  abbrev flat : ℤ
  flat = (b *ℤ f -ℤ e *ℤ c) *ℤ x +ℤ (d *ℤ c -ℤ a *ℤ f) *ℤ y +ℤ (a *ℤ e -ℤ d *ℤ b) *ℤ z

  first : k *ℤ flat ≡ at a b c *ℤ (e *ℤ z -ℤ y *ℤ f) +ℤ at d e f *ℤ (y *ℤ c -ℤ b *ℤ z) +ℤ at x y z *ℤ (b *ℤ f -ℤ e *ℤ c)
  first = ring (k ∷ l ∷ m ∷ a ∷ b ∷ c ∷ d ∷ e ∷ f ∷ x ∷ y ∷ z ∷ []) (search sides depth 40 fits 20000) tt

  second : l *ℤ flat ≡ at a b c *ℤ (x *ℤ f -ℤ d *ℤ z) +ℤ at d e f *ℤ (a *ℤ z -ℤ x *ℤ c) +ℤ at x y z *ℤ (d *ℤ c -ℤ a *ℤ f)
  second = ring (k ∷ l ∷ m ∷ a ∷ b ∷ c ∷ d ∷ e ∷ f ∷ x ∷ y ∷ z ∷ []) (search sides depth 40 fits 20000) tt

  first_back : (b *ℤ f -ℤ e *ℤ c) *ℤ at x y z ≡ k *ℤ flat -ℤ (at a b c *ℤ (e *ℤ z -ℤ y *ℤ f) +ℤ at d e f *ℤ (y *ℤ c -ℤ b *ℤ z))
  first_back = ring (k ∷ l ∷ m ∷ a ∷ b ∷ c ∷ d ∷ e ∷ f ∷ x ∷ y ∷ z ∷ []) (search sides depth 40 fits 20000) tt

  second_back : (d *ℤ c -ℤ a *ℤ f) *ℤ at x y z ≡ l *ℤ flat -ℤ (at a b c *ℤ (x *ℤ f -ℤ d *ℤ z) +ℤ at d e f *ℤ (a *ℤ z -ℤ x *ℤ c))
  second_back = ring (k ∷ l ∷ m ∷ a ∷ b ∷ c ∷ d ∷ e ∷ f ∷ x ∷ y ∷ z ∷ []) (search sides depth 40 fits 20000) tt

  pub flat_by : RunsForward k l → at a b c ≡ pos 0 → at d e f ≡ pos 0 → at x y z ≡ pos 0 → flat ≡ pos 0
  flat_by r p q s =
      only_nothing k l flat r
      (first ∙ (λ i. p i *ℤ (e *ℤ z -ℤ y *ℤ f) +ℤ q i *ℤ (y *ℤ c -ℤ b *ℤ z) +ℤ s i *ℤ (b *ℤ f -ℤ e *ℤ c)) ∙ nothings (e *ℤ z -ℤ y *ℤ f) (y *ℤ c -ℤ b *ℤ z) (b *ℤ f -ℤ e *ℤ c))
      (second ∙ (λ i. p i *ℤ (x *ℤ f -ℤ d *ℤ z) +ℤ q i *ℤ (a *ℤ z -ℤ x *ℤ c) +ℤ s i *ℤ (d *ℤ c -ℤ a *ℤ f)) ∙ nothings (x *ℤ f -ℤ d *ℤ z) (a *ℤ z -ℤ x *ℤ c) (d *ℤ c -ℤ a *ℤ f))

  pub on_by : RunsForward (b *ℤ f -ℤ e *ℤ c) (d *ℤ c -ℤ a *ℤ f) → at a b c ≡ pos 0 → at d e f ≡ pos 0 → flat ≡ pos 0 → at x y z ≡ pos 0
  on_by r p q s =
      only_nothing (b *ℤ f -ℤ e *ℤ c) (d *ℤ c -ℤ a *ℤ f) (at x y z) r
      (first_back ∙ (λ i. k *ℤ s i -ℤ (p i *ℤ (e *ℤ z -ℤ y *ℤ f) +ℤ q i *ℤ (y *ℤ c -ℤ b *ℤ z))) ∙ no_rest k (e *ℤ z -ℤ y *ℤ f) (y *ℤ c -ℤ b *ℤ z))
      (second_back ∙ (λ i. l *ℤ s i -ℤ (p i *ℤ (x *ℤ f -ℤ d *ℤ z) +ℤ q i *ℤ (a *ℤ z -ℤ x *ℤ c))) ∙ no_rest l (x *ℤ f -ℤ d *ℤ z) (a *ℤ z -ℤ x *ℤ c))

pub flat_on_line : (l : Line) (p q t : Point) → RunsForward l.a l.b → side_of l p ≡ pos 0 → side_of l q ≡ pos 0 → side_of l t ≡ pos 0 → side (edge_of_ends p q) t ≡ pos 0
unfolding side
flat_on_line l p q t = flat_by l.a l.b l.c p.x p.y p.w q.x q.y q.w t.x t.y t.w

pub on_line_of_ends : (l : Line) (p q t : Point) → RunsForward (span_a p q) (span_b p q) → side_of l p ≡ pos 0 → side_of l q ≡ pos 0 → side (edge_of_ends p q) t ≡ pos 0 → side_of l t ≡ pos 0
unfolding side
on_line_of_ends l p q t = on_by l.a l.b l.c p.x p.y p.w q.x q.y q.w t.x t.y t.w

nothing_left : (x y : ℤ) → pos 0 *ℤ x -ℤ pos 0 *ℤ y ≡ pos 0
nothing_left x y = ring (x ∷ y ∷ []) (search sides depth 40 fits 20000) tt

-- (a, b) and (A, B) are in proportion to (S, R), and so to each other
module _ (a b A B S R : ℤ) (e : a *ℤ R -ℤ S *ℤ b ≡ pos 0) (f : A *ℤ R -ℤ S *ℤ B ≡ pos 0) where
  by_run : R *ℤ (a *ℤ B -ℤ A *ℤ b) ≡ pos 0
  by_run = ring (a ∷ b ∷ A ∷ B ∷ S ∷ R ∷ []) (search sides depth 40 fits 20000) tt ∙ (λ i. e i *ℤ B -ℤ f i *ℤ b) ∙ nothing_left B b

  by_rise : S *ℤ (a *ℤ B -ℤ A *ℤ b) ≡ pos 0
  by_rise = ring (a ∷ b ∷ A ∷ B ∷ S ∷ R ∷ []) (search sides depth 40 fits 20000) tt ∙ (λ i. e i *ℤ A -ℤ f i *ℤ a) ∙ nothing_left A a

  in_proportion : RunsForward S R → a *ℤ B -ℤ A *ℤ b ≡ pos 0
  in_proportion r = only_nothing S R (a *ℤ B -ℤ A *ℤ b) r by_rise by_run

-- two lines through two points are one
pub one_line : (l m : Line) (p q : Point) → IsProperLine l → IsProperLine m → IsProper p → IsProper q → Lt p q → IsOn l p → IsOn l q → IsOn m p → IsOn m q → l ≡ m
one_line l m p q L M P Q o lp lq mp mq =
    let e = spans_w l.a l.b l.c p.x p.y p.w q.x q.y q.w lp lq in
    let f = spans_w m.a m.b m.c p.x p.y p.w q.x q.y q.w mp mq in
    let parallel = in_proportion l.a l.b m.a m.b (span_a p q) (span_b p q) e f (span_runs p q P Q o) in
    let k = parallel_share l.a l.b l.c m.a m.b m.c p.x p.y p.w P.positive parallel lp mp in
    let s = same_line l.a l.b l.c m.a m.b m.c L.lowest M.lowest L.runs M.runs parallel k.0 k.1 in
    λ i. record { a = s.0 i; b = s.1 i; c = s.2 i }
