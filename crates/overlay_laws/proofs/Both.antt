-- Both layers together: fit, and each layer a part of them.
use Rattle.std.proofs.Common.{◌≡◌, ℕ, ◌++◌, map, true, arith, refl, sym, ap, ◌∙◌, subst, ◌⊎◌, ⊎_elim}
use Rattle.exact_plane.specs.Point.{Point}
use Rattle.exact_plane.specs.PointOrder.{point_cmp}
use Rattle.exact_plane.specs.PointOrderLaws.{point_cmp_total, same_point as point_cmp_exact}
use Rattle.plane_graphs.specs.Line.{IsProper}
use Rattle.plane_graphs.specs.Piece.{Piece, Present, along, on}
use Rattle.plane_graphs.specs.Fit.{IsFit, IsFitPiece, AreOfOneSide}
use Rattle.plane_graphs.specs.Ascending.{Member}
use Rattle.plane_graphs.proofs.Ascending.{IsAscending-ascending}
use Rattle.plane_graphs.proofs.Lists.{of_ascending, in_ascending, in_left, in_right, in_either, in_map, of_map}
use Rattle.slab_laws.specs.Overlay.{renamed, red_name, blue_name, both}
use Rattle.overlay_laws.specs.OverlayLaws.{OverlayIsFit}

-- ---- a piece with another number
module _ (name : ℕ → ℕ) (k : Piece) where
  pub same_along : (t : Point) → along (renamed name k) t ≡ along k t
  unfolding along
  same_along t = refl

  pub same_on : (t : Point) → on (renamed name k) t ≡ on k t
  unfolding on along
  same_on t = refl

  pub fit_piece : IsFitPiece k → IsFitPiece (renamed name k)
  fit_piece f = record {
    lower = f.lower;
    upper = f.upper;
    ahead = f.ahead;
    from = f.from;
    to = f.to;
    forward = f.forward;
    from_on = same_along k.from ∙ f.from_on;
    to_on = same_along k.to ∙ f.to_on;
    from_within = f.from_within;
    to_within = f.to_within;
    first_side = f.first_side;
    last_side = f.last_side;
  }

-- ---- a piece of both is one of a layer, with another number
module _ (red blue : Present) where
  pub data Origin (k : Piece) : Type 0 where
    from_red : (m : Piece) → Member m red.pieces → k ≡ renamed red_name m → Origin k
    from_blue : (m : Piece) → Member m blue.pieces → k ≡ renamed blue_name m → Origin k

  pub origin : (k : Piece) → Member k (both red blue).pieces → Origin k
  origin k h =
      ⊎_elim
      (λ a. let r = of_map (renamed red_name) k red.pieces a in from_red r.0 r.1 r.2)
      (λ a. let r = of_map (renamed blue_name) k blue.pieces a in from_blue r.0 r.1 r.2)
      (in_either k (map (renamed red_name) red.pieces) (map (renamed blue_name) blue.pieces) h)

  pub red_in : (m : Piece) → Member m red.pieces → Member (renamed red_name m) (both red blue).pieces
  red_in m h = in_left (renamed red_name m) (map (renamed red_name) red.pieces) (map (renamed blue_name) blue.pieces) (in_map (renamed red_name) m red.pieces h)

  pub blue_in : (m : Piece) → Member m blue.pieces → Member (renamed blue_name m) (both red blue).pieces
  blue_in m h = in_right (renamed blue_name m) (map (renamed red_name) red.pieces) (map (renamed blue_name) blue.pieces) (in_map (renamed blue_name) m blue.pieces h)

  pub pin_out : (r : Point) → Member r (both red blue).pins → Member r red.pins ⊎ Member r blue.pins
  pin_out r h = in_either r red.pins blue.pins (of_ascending point_cmp point_cmp_total point_cmp_exact r (red.pins ++ blue.pins) h)

  pub pin_in : (r : Point) → Member r red.pins ⊎ Member r blue.pins → Member r (both red blue).pins
  pin_in r h = in_ascending point_cmp point_cmp_total point_cmp_exact r (red.pins ++ blue.pins) (⊎_elim (λ a. in_left r red.pins blue.pins a) (λ a. in_right r red.pins blue.pins a) h)

-- ---- both are fit
curve_path : (k m : Piece) → k ≡ m → k.curve ≡ m.curve
curve_path k m e = ap (λ (z : Piece). z.curve) e

segment_path : (k m : Piece) → k ≡ m → k.segment ≡ m.segment
segment_path k m e = ap (λ (z : Piece). z.segment) e

even_apart : (a b c d : ℕ) → a ≡ red_name c → b ≡ blue_name d → a ≡ b → ⊥
even_apart a b c d h k e = omega arith

red_once : (a b c d : ℕ) → a ≡ red_name c → b ≡ red_name d → a ≡ b → c ≡ d
red_once a b c d h k e = omega arith

blue_once : (a b c d : ℕ) → a ≡ blue_name c → b ≡ blue_name d → a ≡ b → c ≡ d
blue_once a b c d h k e = omega arith

same_side : (name : ℕ → ℕ) → ((x y c d : ℕ) → x ≡ name c → y ≡ name d → x ≡ y → c ≡ d) → (k m a b : Piece) → k ≡ renamed name a → m ≡ renamed name b → AreOfOneSide k m → AreOfOneSide a b
same_side name once k m a b e f s = (once k.curve m.curve a.curve b.curve (curve_path k _ e) (curve_path m _ f) s.0, sym (ap (λ (z : Piece). z.side) e) ∙ s.1 ∙ ap (λ (z : Piece). z.side) f)

module _ (red blue : Present) (fr : IsFit red) (fb : IsFit blue) where
  piece_fit : (k : Piece) → Origin red blue k → IsFitPiece k
  piece_fit k (from_red m h e) = subst IsFitPiece (sym e) (fit_piece red_name m (fr.piece m h))
  piece_fit k (from_blue m h e) = subst IsFitPiece (sym e) (fit_piece blue_name m (fb.piece m h))

  one_segment : (k m : Piece) → Origin red blue k → Origin red blue m → AreOfOneSide k m → k.segment ≡ m.segment
  one_segment k m (from_red a h e) (from_red b i f) s = segment_path k _ e ∙ fr.one_segment a b h i (same_side red_name red_once k m a b e f s) ∙ sym (segment_path m _ f)
  one_segment k m (from_red a h e) (from_blue b i f) s = absurd (even_apart _ _ a.curve b.curve (curve_path k _ e) (curve_path m _ f) s.0)
  one_segment k m (from_blue a h e) (from_red b i f) s = absurd (even_apart _ _ b.curve a.curve (curve_path m _ f) (curve_path k _ e) (sym s.0))
  one_segment k m (from_blue a h e) (from_blue b i f) s = segment_path k _ e ∙ fb.one_segment a b h i (same_side blue_name blue_once k m a b e f s) ∙ sym (segment_path m _ f)

  on_origin : (name : ℕ → ℕ) (k m : Piece) (t : Point) → k ≡ renamed name m → on k t ≡ true → on m t ≡ true
  on_origin name k m t e h = sym (same_on name m t) ∙ ap (λ z. on z t) (sym e) ∙ h

  one_piece : (k m : Piece) → Origin red blue k → Origin red blue m → AreOfOneSide k m → (t : Point) → IsProper t → on k t ≡ true → on m t ≡ true → k ≡ m
  one_piece k m (from_red a h e) (from_red b i f) s t pt x y = e ∙ ap (renamed red_name) (fr.one_piece a b h i (same_side red_name red_once k m a b e f s) t pt (on_origin red_name k a t e x) (on_origin red_name m b t f y)) ∙ sym f
  one_piece k m (from_red a h e) (from_blue b i f) s t pt x y = absurd (even_apart _ _ a.curve b.curve (curve_path k _ e) (curve_path m _ f) s.0)
  one_piece k m (from_blue a h e) (from_red b i f) s t pt x y = absurd (even_apart _ _ b.curve a.curve (curve_path m _ f) (curve_path k _ e) (sym s.0))
  one_piece k m (from_blue a h e) (from_blue b i f) s t pt x y = e ∙ ap (renamed blue_name) (fb.one_piece a b h i (same_side blue_name blue_once k m a b e f s) t pt (on_origin blue_name k a t e x) (on_origin blue_name m b t f y)) ∙ sym f

  pub both_fit : IsFit (both red blue)
  both_fit = record {
    piece = λ k h. piece_fit k (origin red blue k h);
    pin = λ r h. ⊎_elim (λ a. fr.pin r a) (λ a. fb.pin r a) (pin_out red blue r h);
    pins_ascend = IsAscending-ascending point_cmp point_cmp_total (red.pins ++ blue.pins);
    one_segment = λ k m h i s. one_segment k m (origin red blue k h) (origin red blue m i) s;
    one_piece = λ k m h i s t pt x y. one_piece k m (origin red blue k h) (origin red blue m i) s t pt x y;
  }

pub overlay_is_fit : OverlayIsFit
overlay_is_fit = both_fit
