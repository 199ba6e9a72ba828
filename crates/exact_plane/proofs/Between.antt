-- Points on one line: lying on, betweenness, convexity.
use Rattle.std.proofs.Common.{◌≡◌, [], ◌∷◌, ℤ, pos, ◌+ℤ◌, ◌-ℤ◌, ◌*ℤ◌, ◌<ℤ◌, ◌≤ℤ◌, sym, ◌∙◌, subst}
use Rattle.exact_plane.specs.Plane.{side, ahead}
use Rattle.integers.proofs.Reify.{ring, sides}
use Rattle.integers.proofs.Signs.{mul_pos, mul_nonneg, cancel_pos, same_by, diff_pos, sum_pos_l, weak}
use Rattle.integers.proofs.Compare.{cross_trans}

-- ---- r is a mean of p and q
pub record Mean (Xp Yp Wp Xr Yr Wr Xq Yq Wq : ℤ) : Type 0 where
  pub k : ℤ
  pub s : ℤ
  pub t : ℤ
  pub k_pos : pos 0 <ℤ k
  pub s_pos : pos 0 <ℤ s
  pub t_pos : pos 0 <ℤ t
  pub x : Xr *ℤ k ≡ Xp *ℤ s +ℤ Xq *ℤ t
  pub y : Yr *ℤ k ≡ Yp *ℤ s +ℤ Yq *ℤ t
  pub w : Wr *ℤ k ≡ Wp *ℤ s +ℤ Wq *ℤ t

-- on a line that is not vertical, by the abscissas
pub mean_by_x : (a b c Xp Yp Wp Xr Yr Wr Xq Yq Wq : ℤ) → pos 0 <ℤ b → pos 0 <ℤ Wp → pos 0 <ℤ Wr → pos 0 <ℤ Wq →
    side a b c Xp Yp Wp ≡ pos 0 → side a b c Xr Yr Wr ≡ pos 0 → side a b c Xq Yq Wq ≡ pos 0 →
    (Xp *ℤ Wr) <ℤ (Xr *ℤ Wp) → (Xr *ℤ Wq) <ℤ (Xq *ℤ Wr) → Mean Xp Yp Wp Xr Yr Wr Xq Yq Wq
mean_by_x a b c Xp Yp Wp Xr Yr Wr Xq Yq Wq hb wp wr wq sp sr sq pr rq = record {
  k = ahead Xp Wp Xq Wq;
  s = ahead Xr Wr Xq Wq;
  t = ahead Xp Wp Xr Wr;
  k_pos = diff_pos (cross_trans Xp Wp Xr Wr Xq Wq wp wr wq pr rq);
  s_pos = diff_pos rq;
  t_pos = diff_pos pr;
  x = ring (Xp ∷ Wp ∷ Xr ∷ Wr ∷ Xq ∷ Wq ∷ []) (search sides depth 40 fits 20000) tt;
  y = same_by hb zero (ring (a ∷ b ∷ c ∷ Xp ∷ Yp ∷ Wp ∷ Xr ∷ Yr ∷ Wr ∷ Xq ∷ Yq ∷ Wq ∷ []) (search sides depth 40 fits 20000) tt);
  w = ring (Xp ∷ Wp ∷ Xr ∷ Wr ∷ Xq ∷ Wq ∷ []) (search sides depth 40 fits 20000) tt;
}
  where
    zero : side a b c Xp Yp Wp *ℤ ahead Xr Wr Xq Wq +ℤ side a b c Xq Yq Wq *ℤ ahead Xp Wp Xr Wr -ℤ side a b c Xr Yr Wr *ℤ ahead Xp Wp Xq Wq ≡ pos 0
    zero = (λ i. sp i *ℤ ahead Xr Wr Xq Wq +ℤ sq i *ℤ ahead Xp Wp Xr Wr -ℤ sr i *ℤ ahead Xp Wp Xq Wq) ∙ ring (Xp ∷ Wp ∷ Xr ∷ Wr ∷ Xq ∷ Wq ∷ []) (search sides depth 40 fits 20000) tt

-- a side that two points share is the side of what lies between
module _ (a b c Xp Yp Wp Xr Yr Wr Xq Yq Wq : ℤ) (m : Mean Xp Yp Wp Xr Yr Wr Xq Yq Wq) where
  pub mean_side : side a b c Xr Yr Wr *ℤ m.k ≡ side a b c Xp Yp Wp *ℤ m.s +ℤ side a b c Xq Yq Wq *ℤ m.t
  mean_side =
      ring (a ∷ b ∷ c ∷ Xr ∷ Yr ∷ Wr ∷ m.k ∷ []) (search sides depth 40 fits 20000) tt
      ∙ (λ i. a *ℤ m.x i +ℤ b *ℤ m.y i +ℤ c *ℤ m.w i)
      ∙ ring (a ∷ b ∷ c ∷ Xp ∷ Yp ∷ Wp ∷ Xq ∷ Yq ∷ Wq ∷ m.s ∷ m.t ∷ []) (search sides depth 40 fits 20000) tt

  pub mean_left : pos 0 <ℤ side a b c Xp Yp Wp → pos 0 ≤ℤ side a b c Xq Yq Wq → pos 0 <ℤ side a b c Xr Yr Wr
  mean_left hp hq = cancel_pos m.k_pos (subst (λ z. pos 0 <ℤ z) (sym mean_side) (sum_pos_l (mul_pos hp m.s_pos) (mul_nonneg hq (weak m.t_pos))))
