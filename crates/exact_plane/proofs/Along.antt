-- The point order along a line.
use Rattle.std.proofs.Common.{◌≡◌, [], ◌∷◌, ℤ, pos, ◌+ℤ◌, ◌-ℤ◌, ◌*ℤ◌, ◌<ℤ◌, neg_ℤ, ap, ◌∙◌, arith, inl, inr, ⊎_elim}
use Rattle.std.proofs.lemmas.Int.{ints}
use Rattle.exact_plane.specs.Plane.{side, Before, RunsForward}
use Rattle.integers.proofs.Reify.{ring, sides}
use Rattle.integers.proofs.Signs.{same_by}
use Rattle.exact_plane.proofs.Between.{Mean, mean_by_x}

-- two points of a line with b > 0 at one abscissa have one ordinate
pub same_height : (a b c X1 Y1 W1 X2 Y2 W2 : ℤ) → pos 0 <ℤ b → side a b c X1 Y1 W1 ≡ pos 0 → side a b c X2 Y2 W2 ≡ pos 0 → X1 *ℤ W2 ≡ X2 *ℤ W1 → Y1 *ℤ W2 ≡ Y2 *ℤ W1
same_height a b c X1 Y1 W1 X2 Y2 W2 hb s1 s2 e =
    same_by hb zero (ring (a ∷ b ∷ c ∷ X1 ∷ Y1 ∷ W1 ∷ X2 ∷ Y2 ∷ W2 ∷ []) (search sides depth 40 fits 20000) tt)
  where
    zero : side a b c X2 Y2 W2 *ℤ W1 -ℤ side a b c X1 Y1 W1 *ℤ W2 +ℤ a *ℤ (X1 *ℤ W2 -ℤ X2 *ℤ W1) ≡ pos 0
    zero = (λ i. s2 i *ℤ W1 -ℤ s1 i *ℤ W2 +ℤ a *ℤ (e i -ℤ X2 *ℤ W1)) ∙ ring (a ∷ X2 ∷ W1 ∷ W2 ∷ []) (search sides depth 40 fits 20000) tt

-- on a vertical line all abscissas are one
pub same_wall : (a b c X1 Y1 W1 X2 Y2 W2 : ℤ) → b ≡ pos 0 → a <ℤ pos 0 → side a b c X1 Y1 W1 ≡ pos 0 → side a b c X2 Y2 W2 ≡ pos 0 → X1 *ℤ W2 ≡ X2 *ℤ W1
same_wall a b c X1 Y1 W1 X2 Y2 W2 eb ha s1 s2 =
    same_by {k = neg_ℤ a} (omega (arith, ints)) zero (ring (a ∷ b ∷ c ∷ X1 ∷ Y1 ∷ W1 ∷ X2 ∷ Y2 ∷ W2 ∷ []) (search sides depth 40 fits 20000) tt)
  where
    zero : side a b c X1 Y1 W1 *ℤ W2 -ℤ side a b c X2 Y2 W2 *ℤ W1 +ℤ b *ℤ (Y2 *ℤ W1 -ℤ Y1 *ℤ W2) ≡ pos 0
    zero = (λ i. s1 i *ℤ W2 -ℤ s2 i *ℤ W1 +ℤ eb i *ℤ (Y2 *ℤ W1 -ℤ Y1 *ℤ W2)) ∙ ring (Y1 ∷ Y2 ∷ W1 ∷ W2 ∷ []) (search sides depth 40 fits 20000) tt

-- on a vertical line the order goes by the ordinates
pub mean_by_y : (a b c Xp Yp Wp Xr Yr Wr Xq Yq Wq : ℤ) → a <ℤ pos 0 → pos 0 <ℤ Wp → pos 0 <ℤ Wr → pos 0 <ℤ Wq →
    side a b c Xp Yp Wp ≡ pos 0 → side a b c Xr Yr Wr ≡ pos 0 → side a b c Xq Yq Wq ≡ pos 0 →
    (Yp *ℤ Wr) <ℤ (Yr *ℤ Wp) → (Yr *ℤ Wq) <ℤ (Yq *ℤ Wr) → Mean Xp Yp Wp Xr Yr Wr Xq Yq Wq
mean_by_y a b c Xp Yp Wp Xr Yr Wr Xq Yq Wq ha wp wr wq sp sr sq pr rq =
    let m = mean_by_x (neg_ℤ b) (neg_ℤ a) (neg_ℤ c) Yp Xp Wp Yr Xr Wr Yq Xq Wq (omega (arith, ints)) wp wr wq (turned Xp Yp Wp sp) (turned Xr Yr Wr sr) (turned Xq Yq Wq sq) pr rq in
    record { k = m.k; s = m.s; t = m.t; k_pos = m.k_pos; s_pos = m.s_pos; t_pos = m.t_pos; x = m.y; y = m.x; w = m.w }
  where
    turned : (X Y W : ℤ) → side a b c X Y W ≡ pos 0 → side (neg_ℤ b) (neg_ℤ a) (neg_ℤ c) Y X W ≡ pos 0
    turned X Y W e = ring (a ∷ b ∷ c ∷ X ∷ Y ∷ W ∷ []) (search sides depth 40 fits 20000) tt ∙ ap neg_ℤ e

module _ (a b c Xp Yp Wp Xr Yr Wr Xq Yq Wq : ℤ) (runs : RunsForward a b) (wp : pos 0 <ℤ Wp) (wr : pos 0 <ℤ Wr) (wq : pos 0 <ℤ Wq)
    (sp : side a b c Xp Yp Wp ≡ pos 0) (sr : side a b c Xr Yr Wr ≡ pos 0) (sq : side a b c Xq Yq Wq ≡ pos 0) where
  by_heights : pos 0 <ℤ b → (X1 Y1 W1 X2 Y2 W2 : ℤ) → side a b c X1 Y1 W1 ≡ pos 0 → side a b c X2 Y2 W2 ≡ pos 0 → Before X1 Y1 W1 X2 Y2 W2 → (X1 *ℤ W2) <ℤ (X2 *ℤ W1)
  by_heights hb X1 Y1 W1 X2 Y2 W2 s1 s2 (inl h) = h
  by_heights hb X1 Y1 W1 X2 Y2 W2 s1 s2 (inr h) = let e = same_height a b c X1 Y1 W1 X2 Y2 W2 hb s1 s2 h.0 in let k = h.1 in absurd (omega (arith, ints))

  by_walls : b ≡ pos 0 → a <ℤ pos 0 → (X1 Y1 W1 X2 Y2 W2 : ℤ) → side a b c X1 Y1 W1 ≡ pos 0 → side a b c X2 Y2 W2 ≡ pos 0 → Before X1 Y1 W1 X2 Y2 W2 → (Y1 *ℤ W2) <ℤ (Y2 *ℤ W1)
  by_walls eb ha X1 Y1 W1 X2 Y2 W2 s1 s2 (inl h) = let e = same_wall a b c X1 Y1 W1 X2 Y2 W2 eb ha s1 s2 in absurd (omega (arith, ints))
  by_walls eb ha X1 Y1 W1 X2 Y2 W2 s1 s2 (inr h) = h.1

  -- what stands between two points of a line is a mean of them
  pub mean_between : Before Xp Yp Wp Xr Yr Wr → Before Xr Yr Wr Xq Yq Wq → Mean Xp Yp Wp Xr Yr Wr Xq Yq Wq
  mean_between pr rq =
      ⊎_elim
      (λ hb. mean_by_x a b c Xp Yp Wp Xr Yr Wr Xq Yq Wq hb wp wr wq sp sr sq (by_heights hb Xp Yp Wp Xr Yr Wr sp sr pr) (by_heights hb Xr Yr Wr Xq Yq Wq sr sq rq))
      (λ h. mean_by_y a b c Xp Yp Wp Xr Yr Wr Xq Yq Wq h.1 wp wr wq sp sr sq (by_walls h.0 h.1 Xp Yp Wp Xr Yr Wr sp sr pr) (by_walls h.0 h.1 Xr Yr Wr Xq Yq Wq sr sq rq))
      runs
