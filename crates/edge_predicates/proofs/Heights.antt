-- The order of two edges at an abscissa, by the heights of their lines.
use Rattle.std.proofs.Common.{◌≡◌, true, ap, ◌∙◌, [], ◌∷◌, Ordering}
use Rattle.std.specs.Prelude.{ℤ, pos, ◌+ℤ◌, ◌-ℤ◌, ◌*ℤ◌, ◌<ℤ◌, neg_ℤ}
use Rattle.std.specs.Ordering.{is_gt}
use lib.Signed.{lt_z}
use Rattle.integers.proofs.Compare.{same_cmp}
use Rattle.integers.proofs.Reify.{ring, sides}
use Rattle.integers.proofs.Signs.{mul_pos}
use Rattle.exact_plane.specs.Point.{Point}
use Rattle.exact_plane.specs.Height.{height_cmp, height_over, height_under}
use Rattle.exact_plane.specs.Span.{Span, IsSpan}
use Rattle.plane_graphs.proofs.Crossings.{spans_w, spans_x}
use Rattle.plane_graphs.proofs.Lines.{span_a, span_b, span_c}
use Rattle.slab_laws.specs.Skeleton.{HasWeight, left_of, run, side, gap}
use Rattle.slab_laws.specs.SpansDrawn.{edge_of}
use Rattle.slab_faces.proofs.Walls.{run_positive}
use Rattle.edge_predicates.proofs.Sides.{greater_is, line_run_is}

-- the gap of two edges and the heights of their lines, from lines in proportion to the numbers of the ends
module _ (a b c A B C d e f D E F X Y W : ℤ) where
  by_lines : a *ℤ B -ℤ A *ℤ b ≡ pos 0 → b *ℤ C -ℤ B *ℤ c ≡ pos 0 → d *ℤ E -ℤ D *ℤ e ≡ pos 0 → e *ℤ F -ℤ E *ℤ f ≡ pos 0 →
      ((pos 0 -ℤ (a *ℤ X +ℤ c *ℤ W)) *ℤ (e *ℤ W) -ℤ (pos 0 -ℤ (d *ℤ X +ℤ f *ℤ W)) *ℤ (b *ℤ W)) *ℤ (E *ℤ B) ≡ (pos 0 -ℤ (E *ℤ (A *ℤ X +ℤ B *ℤ Y +ℤ C *ℤ W) -ℤ B *ℤ (D *ℤ X +ℤ E *ℤ Y +ℤ F *ℤ W))) *ℤ (b *ℤ e *ℤ W)
  by_lines g h k l =
      ring (a ∷ b ∷ c ∷ A ∷ B ∷ C ∷ d ∷ e ∷ f ∷ D ∷ E ∷ F ∷ X ∷ Y ∷ W ∷ []) (search sides depth 40 fits 20000) tt
      ∙ (λ i. (pos 0 -ℤ (E *ℤ (A *ℤ X +ℤ B *ℤ Y +ℤ C *ℤ W) -ℤ B *ℤ (D *ℤ X +ℤ E *ℤ Y +ℤ F *ℤ W))) *ℤ (b *ℤ e *ℤ W) +ℤ W *ℤ (e *ℤ E *ℤ (h i *ℤ W -ℤ g i *ℤ X) -ℤ b *ℤ B *ℤ (l i *ℤ W -ℤ k i *ℤ X)))
      ∙ ring (b ∷ e ∷ B ∷ E ∷ X ∷ W ∷ (pos 0 -ℤ (E *ℤ (A *ℤ X +ℤ B *ℤ Y +ℤ C *ℤ W) -ℤ B *ℤ (D *ℤ X +ℤ E *ℤ Y +ℤ F *ℤ W))) ∷ []) (search sides depth 40 fits 20000) tt

negative_is : (z : ℤ) → neg_ℤ z ≡ pos 0 -ℤ z
negative_is z = ring (z ∷ []) (search sides depth 40 fits 20000) tt

-- the other edge is above the edge where its line is higher
pub higher_is : (s o : Span) (t : Point) (r : Ordering) → IsSpan s → IsSpan o → HasWeight t → left_of s.lower s.upper ≡ true → left_of o.lower o.upper ≡ true → r ≡ height_cmp o.line s.line t → is_gt r ≡ lt_z (pos 0) (gap (edge_of s) (edge_of o) t)
unfolding gap run side
higher_is s o t r is io T h k q =
    let S = run_positive (edge_of s) h in
    let O = run_positive (edge_of o) k in
    let sb = line_run_is s is S in
    let ob = line_run_is o io O in
    let P : ℤ = height_over o.line t *ℤ height_under s.line t in
    let Q : ℤ = height_over s.line t *ℤ height_under o.line t in
    let p = spans_w s.line.a s.line.b s.line.c s.lower.x s.lower.y s.lower.w s.upper.x s.upper.y s.upper.w is.way.lower_on is.way.upper_on in
    let p' = spans_x s.line.a s.line.b s.line.c s.lower.x s.lower.y s.lower.w s.upper.x s.upper.y s.upper.w is.way.lower_on is.way.upper_on in
    let w = spans_w o.line.a o.line.b o.line.c o.lower.x o.lower.y o.lower.w o.upper.x o.upper.y o.upper.w io.way.lower_on io.way.upper_on in
    let w' = spans_x o.line.a o.line.b o.line.c o.lower.x o.lower.y o.lower.w o.upper.x o.upper.y o.upper.w io.way.lower_on io.way.upper_on in
    let e = by_lines s.line.a s.line.b s.line.c (span_a s.lower s.upper) (span_b s.lower s.upper) (span_c s.lower s.upper) o.line.a o.line.b o.line.c (span_a o.lower o.upper) (span_b o.lower o.upper) (span_c o.lower o.upper) t.x t.y t.w p p' w w' in
    let G : ℤ = gap_of in
    ap is_gt q
    ∙ ap is_gt (same_cmp P Q G (pos 0) {k = span_b o.lower o.upper *ℤ span_b s.lower s.upper} {m = s.line.b *ℤ o.line.b *ℤ t.w} (mul_pos (run_up o O) (run_up s S)) (mul_pos (mul_pos sb ob) T)
    ((λ i. (negative_is (s.line.a *ℤ t.x +ℤ s.line.c *ℤ t.w) i *ℤ (o.line.b *ℤ t.w) -ℤ negative_is (o.line.a *ℤ t.x +ℤ o.line.c *ℤ t.w) i *ℤ (s.line.b *ℤ t.w)) *ℤ (span_b o.lower o.upper *ℤ span_b s.lower s.upper)) ∙ e))
    ∙ greater_is G (pos 0)
  where
    gap_of : ℤ
    gap_of = span_b o.lower o.upper *ℤ (span_a s.lower s.upper *ℤ t.x +ℤ span_b s.lower s.upper *ℤ t.y +ℤ span_c s.lower s.upper *ℤ t.w) -ℤ span_b s.lower s.upper *ℤ (span_a o.lower o.upper *ℤ t.x +ℤ span_b o.lower o.upper *ℤ t.y +ℤ span_c o.lower o.upper *ℤ t.w)

    run_up : (s : Span) → pos 0 <ℤ run (edge_of s) → pos 0 <ℤ span_b s.lower s.upper
    run_up s h = unfold run in h

pub not_vertical : (s : Span) → IsSpan s → left_of s.lower s.upper ≡ true → pos 0 <ℤ s.line.b
not_vertical s is h = line_run_is s is (run_positive (edge_of s) h)
