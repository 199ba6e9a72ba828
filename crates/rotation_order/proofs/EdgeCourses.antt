-- A dart along a line goes the way of the line's direction, and the turn of two such directions has the sign of a side.
use Rattle.std.proofs.Common.{◌≡◌, Bool, true, false, arith, refl, sym, ap, ◌∙◌, inl, inr, [], ◌∷◌}
use Rattle.std.specs.Prelude.{ℤ, pos, ◌+ℤ◌, ◌-ℤ◌, ◌*ℤ◌, ◌<ℤ◌, ◌≤ℤ◌, neg_ℤ}
use Rattle.std.proofs.lemmas.Int.{ints}
use Rattle.std.proofs.lemmas.Bool.{cases_Bool, false≢true}
use lib.IntN.{*ℤ-zero}
use lib.Signed.{lt_z}
use Rattle.integers.proofs.Reify.{ring, sides}
use Rattle.integers.proofs.Signs.{neg_below, mul_pos'}
use Rattle.integers.proofs.Tests.{lt_yes, zero_below, zero_above}
use Rattle.exact_plane.specs.Plane.{RunsForward}
use Rattle.exact_plane.specs.Point.{Point}
use Rattle.exact_plane.specs.Line.{Line}
use Rattle.exact_plane.specs.Direction.{turn as cross}
use Rattle.plane_graphs.specs.Graph.{Edge}
use Rattle.plane_graphs.proofs.Crossings.{spans_w}
use Rattle.slab_laws.specs.Skeleton.{left_of, lower_than, on_wall, run, side, steep}
use Rattle.slab_laws.specs.Darts.{Dart, kind}
use Rattle.slab_laws.specs.Rotation.{turn}
use Rattle.slab_faces.proofs.Ints.{times_mixed, same_sign}
use Rattle.slab_faces.proofs.Walls.{run_positive, same_abscissa}
use Rattle.rotation_order.specs.EdgeParts.{IsForwardEdge}
use Rattle.rotation_order.specs.Directions.{quarter_by, quarter, dart_direction, IsAlong}
use Rattle.rotation_order.proofs.Factors.{lt_no, less_nothing, more_nothing}
use Rattle.rotation_order.proofs.Fans.{edge_from}

-- ---- the quarter of a line's direction

twice_negative : (z : ℤ) → z <ℤ pos 0 → neg_ℤ (neg_ℤ z) <ℤ pos 0
twice_negative z h = omega (arith, ints)

positive : (z : ℤ) → z <ℤ pos 0 → pos 0 ≤ℤ neg_ℤ z
positive z h = omega (arith, ints)

weak : (z : ℤ) → pos 0 <ℤ z → pos 0 ≤ℤ z
weak z h = omega (arith, ints)

pub way_right : (l : Line) (f : Bool) → pos 0 <ℤ l.b → quarter (dart_direction l f) ≡ kind true f
way_right l true h = λ i. quarter_by (lt_no l.b (pos 0) (weak l.b h) i) (lt_yes (pos 0) l.b h i) (lt_z (neg_ℤ l.a) (pos 0))
way_right l false h = λ i. quarter_by (lt_yes (neg_ℤ l.b) (pos 0) (neg_below l.b h) i) (lt_z (pos 0) (neg_ℤ l.b)) (lt_z (neg_ℤ (neg_ℤ l.a)) (pos 0))

pub way_up : (l : Line) (f : Bool) → l.b ≡ pos 0 → l.a <ℤ pos 0 → quarter (dart_direction l f) ≡ kind false f
way_up l true z h = λ i. quarter_by (zero_below l.b z i) (zero_above l.b z i) (lt_no (neg_ℤ l.a) (pos 0) (positive l.a h) i)
way_up l false z h =
    let n : neg_ℤ l.b ≡ pos 0 = ap neg_ℤ z in
    λ i. quarter_by (zero_below (neg_ℤ l.b) n i) (zero_above (neg_ℤ l.b) n i) (lt_yes (neg_ℤ (neg_ℤ l.a)) (pos 0) (twice_negative l.a h) i)

-- ---- which way an edge runs, and its line
pub run_zero : (e : Edge) → left_of e.low e.high ≡ false → left_of e.high e.low ≡ false → run e ≡ pos 0
unfolding run
run_zero e a b = same_abscissa e.low e.high a b

pub steep_falls : (e : Edge) → lower_than e.low e.high ≡ true → steep e <ℤ pos 0
unfolding steep lower_than
steep_falls e h = omega (arith, ints)

pub level : (p q : Point) → left_of p q ≡ false → left_of q p ≡ false → on_wall p q ≡ true
level p q a b = rw (a, b) refl

edge_runs : (e : Edge) → IsForwardEdge e → RunsForward (steep e) (run e)
edge_runs e E =
    elim (cases_Bool (left_of e.low e.high)) [
      | inl a ↦ inl (run_positive e a)
      | inr a ↦ inr (run_zero e a E.forward, steep_falls e (E.upright (level e.low e.high a E.forward)))
    ]

slants : (e : Edge) → pos 0 <ℤ run e → left_of e.low e.high ≡ true
unfolding run left_of
slants e h = lt_yes (e.low.x *ℤ e.high.w) (e.high.x *ℤ e.low.w) (omega (arith, ints))

stands : (e : Edge) → run e ≡ pos 0 → left_of e.low e.high ≡ false
unfolding run left_of
stands e h = lt_no (e.low.x *ℤ e.high.w) (e.high.x *ℤ e.low.w) (omega (arith, ints))

module _ (a b A B : ℤ) (e : a *ℤ B -ℤ A *ℤ b ≡ pos 0) where
  runs_too : pos 0 <ℤ b → RunsForward A B → pos 0 <ℤ B
  runs_too h (inl k) = k
  runs_too h (inr k) = let m = times_mixed A b k.1 h in let z : a *ℤ B ≡ pos 0 = ap (λ x. a *ℤ x) k.0 ∙ *ℤ-zero a in absurd (omega (arith, ints))

  stands_too : b ≡ pos 0 → a <ℤ pos 0 → RunsForward A B → B ≡ pos 0
  stands_too y h (inl k) = let m = times_mixed a B h k in let z : A *ℤ b ≡ pos 0 = ap (λ x. A *ℤ x) y ∙ *ℤ-zero A in absurd (omega (arith, ints))
  stands_too y h (inr k) = k.0

module _ (d : Dart) (l : Line) (A : IsAlong d l) where
  pub across : l.a *ℤ run d.edge -ℤ steep d.edge *ℤ l.b ≡ pos 0
  unfolding run steep
  across = spans_w l.a l.b l.c d.edge.low.x d.edge.low.y d.edge.low.w d.edge.high.x d.edge.high.y d.edge.high.w A.low_on A.high_on

  slants_with : pos 0 <ℤ l.b → left_of d.edge.low d.edge.high ≡ true
  slants_with h = slants d.edge (runs_too l.a l.b (steep d.edge) (run d.edge) across h (edge_runs d.edge A.edge))

  stands_with : l.b ≡ pos 0 → l.a <ℤ pos 0 → left_of d.edge.low d.edge.high ≡ false
  stands_with z h = stands d.edge (stands_too l.a l.b (steep d.edge) (run d.edge) across z h (edge_runs d.edge A.edge))

  by_runs : RunsForward l.a l.b → quarter (dart_direction l d.forward) ≡ turn d
  by_runs (inl h) = way_right l d.forward h ∙ ap (λ s. kind s d.forward) (sym (slants_with h))
  by_runs (inr h) = way_up l d.forward h.0 h.1 ∙ ap (λ s. kind s d.forward) (sym (stands_with h.0 h.1))

  pub quarter_is : quarter (dart_direction l d.forward) ≡ turn d
  quarter_is = by_runs A.line.runs

  line_runs : left_of d.edge.low d.edge.high ≡ true → RunsForward l.a l.b → pos 0 <ℤ l.b
  line_runs s (inl h) = h
  line_runs s (inr h) = absurd (false≢true (sym (stands_with h.0 h.1) ∙ s))

  pub line_slants : left_of d.edge.low d.edge.high ≡ true → pos 0 <ℤ l.b
  line_slants s = line_runs s A.line.runs

-- ---- the turn of two directions of lines
pub turn_of_ways : (l m : Line) (f : Bool) → cross (dart_direction l f) (dart_direction m f) ≡ l.a *ℤ m.b -ℤ m.a *ℤ l.b
turn_of_ways l m true = ring (l.a ∷ l.b ∷ m.a ∷ m.b ∷ []) (search sides depth 40 fits 20000) tt
turn_of_ways l m false = ring (l.a ∷ l.b ∷ m.a ∷ m.b ∷ []) (search sides depth 40 fits 20000) tt

-- (a, b) is in proportion to (A, B), and (c, d) to (C, D)
module _ (a b A B c d C D : ℤ) (e : a *ℤ B -ℤ A *ℤ b ≡ pos 0) (f : c *ℤ D -ℤ C *ℤ d ≡ pos 0) where
  in_proportion : (B *ℤ D) *ℤ (a *ℤ d -ℤ c *ℤ b) ≡ (b *ℤ d) *ℤ (A *ℤ D -ℤ B *ℤ C)
  in_proportion =
      ring (a ∷ b ∷ A ∷ B ∷ c ∷ d ∷ C ∷ D ∷ []) (search sides depth 40 fits 20000) tt
      ∙ less_nothing ((b *ℤ d) *ℤ (A *ℤ D -ℤ B *ℤ C) +ℤ (a *ℤ B -ℤ A *ℤ b) *ℤ (d *ℤ D)) (b *ℤ B) (c *ℤ D -ℤ C *ℤ d) f
      ∙ more_nothing ((b *ℤ d) *ℤ (A *ℤ D -ℤ B *ℤ C)) (d *ℤ D) (a *ℤ B -ℤ A *ℤ b) e

  pub turned_sign : (w s : ℤ) → pos 0 <ℤ b → pos 0 <ℤ d → pos 0 <ℤ B → pos 0 <ℤ D → pos 0 <ℤ w → w *ℤ s ≡ A *ℤ D -ℤ B *ℤ C → lt_z (a *ℤ d -ℤ c *ℤ b) (pos 0) ≡ lt_z s (pos 0)
  turned_sign w s hb hd hB hD hw p =
      same_sign (B *ℤ D) (a *ℤ d -ℤ c *ℤ b) (b *ℤ d *ℤ w) s (mul_pos' B D hB hD) (mul_pos' (b *ℤ d) w (mul_pos' b d hb hd) hw)
      (in_proportion ∙ (λ i. (b *ℤ d) *ℤ sym p i) ∙ ring (b ∷ d ∷ w ∷ s ∷ []) (search sides depth 40 fits 20000) tt)

-- ---- the side of an end, as the turn of two edges
low_numbers : (a b c d e f g h i : ℤ) → c *ℤ ((b *ℤ f -ℤ e *ℤ c) *ℤ g +ℤ (d *ℤ c -ℤ a *ℤ f) *ℤ h +ℤ (a *ℤ e -ℤ d *ℤ b) *ℤ i) ≡ (b *ℤ f -ℤ e *ℤ c) *ℤ (g *ℤ c -ℤ a *ℤ i) -ℤ (d *ℤ c -ℤ a *ℤ f) *ℤ (b *ℤ i -ℤ h *ℤ c)
low_numbers a b c d e f g h i = ring (a ∷ b ∷ c ∷ d ∷ e ∷ f ∷ g ∷ h ∷ i ∷ []) (search sides depth 40 fits 20000) tt

high_numbers : (a b c d e f g h i : ℤ) → c *ℤ ((h *ℤ c -ℤ b *ℤ i) *ℤ d +ℤ (a *ℤ i -ℤ g *ℤ c) *ℤ e +ℤ (g *ℤ b -ℤ a *ℤ h) *ℤ f) ≡ (e *ℤ c -ℤ b *ℤ f) *ℤ (a *ℤ i -ℤ g *ℤ c) -ℤ (a *ℤ f -ℤ d *ℤ c) *ℤ (h *ℤ c -ℤ b *ℤ i)
high_numbers a b c d e f g h i = ring (a ∷ b ∷ c ∷ d ∷ e ∷ f ∷ g ∷ h ∷ i ∷ []) (search sides depth 40 fits 20000) tt

pub low_product : (p q t : Point) → p.w *ℤ side (edge_from p q) t ≡ steep (edge_from p q) *ℤ run (edge_from p t) -ℤ run (edge_from p q) *ℤ steep (edge_from p t)
unfolding side steep run
low_product p q t = low_numbers p.x p.y p.w q.x q.y q.w t.x t.y t.w

pub high_product : (q u t : Point) → q.w *ℤ side (edge_from t q) u ≡ steep (edge_from u q) *ℤ run (edge_from t q) -ℤ run (edge_from u q) *ℤ steep (edge_from t q)
unfolding side steep run
high_product q u t = high_numbers q.x q.y q.w u.x u.y u.w t.x t.y t.w
