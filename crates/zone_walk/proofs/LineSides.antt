-- A point is on the side of an edge on which it is of the edge's line, whatever the bounds of their numbers.
use Rattle.std.proofs.Common.{◌≡◌, ℤ, pos, ◌+ℤ◌, ◌-ℤ◌, ◌*ℤ◌, ◌<ℤ◌, neg_ℤ, [], ◌∷◌, arith, inl, inr, ◌∙◌}
use Rattle.std.specs.Ordering.{int_cmp}
use Rattle.std.proofs.lemmas.Int.{ints}
use Rattle.integers.proofs.Compare.{same_cmp}
use Rattle.integers.proofs.Reify.{ring, sides}
use Rattle.integers.proofs.Signs.{cancel_zero, neg_above}
use Rattle.exact_plane.specs.Line.{Line, side_of, IsOn}
use Rattle.exact_plane.specs.Plane.{side as side_by, RunsForward}
use Rattle.exact_plane.specs.Point.{Point}
use Rattle.plane_graphs.specs.Graph.{Edge}
use Rattle.plane_graphs.specs.Line.{IsProper}
use Rattle.plane_graphs.proofs.Crossings.{spans_w, spans_x, spans_y}
use Rattle.plane_graphs.proofs.Lines.{span_a, span_b, span_c, span_runs}
use Rattle.slab_laws.specs.declared.names.DartId.{DartId}
use Rattle.slab_laws.specs.Skeleton.{side}
use Rattle.slab_laws.specs.Sound.{edge_in, IsGraphSound}
use Rattle.slab_laws.specs.View.{View, HasDart, line_in}
use Rattle.locate_naive.proofs.Within.{low_proper, high_proper}
use Rattle.zone_walk.proofs.SeenSpans.{ascend, both_ends}

-- ---- two lines in proportion that run forward
module _ (a b c A B C X Y W : ℤ) (ew : a *ℤ B -ℤ A *ℤ b ≡ pos 0) (ex : b *ℤ C -ℤ B *ℤ c ≡ pos 0) (ey : c *ℤ A -ℤ C *ℤ a ≡ pos 0) where
  by_runs : (pos 0 -ℤ side_by A B C X Y W) *ℤ b ≡ (pos 0 -ℤ side_by a b c X Y W) *ℤ B
  by_runs =
      ring (a ∷ b ∷ c ∷ A ∷ B ∷ C ∷ X ∷ Y ∷ W ∷ []) (search sides depth 40 fits 20000) tt
      ∙ (λ i. (pos 0 -ℤ side_by a b c X Y W) *ℤ B +ℤ (X *ℤ ew i -ℤ W *ℤ ex i))
      ∙ ring (a ∷ b ∷ c ∷ B ∷ X ∷ Y ∷ W ∷ []) (search sides depth 40 fits 20000) tt

  by_falls : (pos 0 -ℤ side_by A B C X Y W) *ℤ neg_ℤ a ≡ (pos 0 -ℤ side_by a b c X Y W) *ℤ neg_ℤ A
  by_falls =
      ring (a ∷ b ∷ c ∷ A ∷ B ∷ C ∷ X ∷ Y ∷ W ∷ []) (search sides depth 40 fits 20000) tt
      ∙ (λ i. (pos 0 -ℤ side_by a b c X Y W) *ℤ neg_ℤ A +ℤ (Y *ℤ ew i -ℤ W *ℤ ey i))
      ∙ ring (a ∷ b ∷ c ∷ A ∷ X ∷ Y ∷ W ∷ []) (search sides depth 40 fits 20000) tt

  -- one that runs to the right has no other that runs upwards
  never : (k m : ℤ) → pos 0 <ℤ k → m <ℤ pos 0 → m *ℤ k ≡ pos 0 → ⊥
  never k m h n e = let z = cancel_zero {x = m} {k = k} h e in omega (arith, ints)

  pub in_proportion : RunsForward a b → RunsForward A B → int_cmp (side_by A B C X Y W) (pos 0) ≡ int_cmp (side_by a b c X Y W) (pos 0)
  in_proportion (inl h) (inl k) = same_cmp (side_by A B C X Y W) (pos 0) (side_by a b c X Y W) (pos 0) h k by_runs
  in_proportion (inr h) (inr k) = same_cmp (side_by A B C X Y W) (pos 0) (side_by a b c X Y W) (pos 0) {k = neg_ℤ a} {m = neg_ℤ A} (neg_above a h.1) (neg_above A k.1) by_falls
  in_proportion (inl h) (inr k) = absurd (never b A h k.1 (ring (a ∷ b ∷ A ∷ B ∷ []) (search sides depth 40 fits 20000) tt ∙ (λ i. a *ℤ k.0 i -ℤ ew i) ∙ ring (a ∷ []) (search sides depth 40 fits 20000) tt))
  in_proportion (inr h) (inl k) = absurd (never B a k h.1 (ring (a ∷ b ∷ A ∷ B ∷ []) (search sides depth 40 fits 20000) tt ∙ (λ i. ew i +ℤ A *ℤ h.0 i) ∙ ring (A ∷ []) (search sides depth 40 fits 20000) tt))

-- ---- the line of a dart's edge
module _ (v : View) (s : IsGraphSound v) (d : DartId) (has : HasDart v d) where
  abbrev e : Edge
  e = edge_in v d

  abbrev l : Line
  l = line_in v d

  proper : IsProper e.low × IsProper e.high
  proper = both_ends v s d has IsProper (low_proper v s d has) (high_proper v s d has)

  on : IsOn l e.low × IsOn l e.high
  on = both_ends v s d has (IsOn l) (s.drawn.starts d has) (s.drawn.ends d has)

  pub side_of_line : (t : Point) → int_cmp (side e t) (pos 0) ≡ int_cmp (side_of l t) (pos 0)
  unfolding side
  side_of_line t =
      in_proportion l.a l.b l.c (span_a e.low e.high) (span_b e.low e.high) (span_c e.low e.high) t.x t.y t.w
      (spans_w l.a l.b l.c e.low.x e.low.y e.low.w e.high.x e.high.y e.high.w on.0 on.1)
      (spans_x l.a l.b l.c e.low.x e.low.y e.low.w e.high.x e.high.y e.high.w on.0 on.1)
      (spans_y l.a l.b l.c e.low.x e.low.y e.low.w e.high.x e.high.y e.high.w on.0 on.1)
      (s.drawn.line d has).runs (span_runs e.low e.high proper.0 proper.1 (ascend v s d has))
