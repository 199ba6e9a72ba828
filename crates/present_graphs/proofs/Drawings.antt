-- Whole segments, each of a curve of its own, are fit.
use Rattle.std.proofs.Common.{◌≡◌, ℕ, ◌+◌, ◌≤◌, List, [], ◌∷◌, ◌++◌, pos, false, sym, ap, ◌∙◌, subst, arith, inl, inr, ◌⊎◌, ⊎_elim}
use Rattle.exact_plane.specs.Point.{Point}
use Rattle.exact_plane.specs.PointOrder.{point_cmp}
use Rattle.exact_plane.specs.Line.{side_of}
use Rattle.exact_plane.specs.Segment.{Segment, AreEnds, line_of_segment}
use Rattle.plane_graphs.specs.Ascending.{Member, IsAscending}
use Rattle.plane_graphs.specs.Fit.{IsFit, IsFitPiece}
use Rattle.plane_graphs.specs.Line.{IsWhole, IsProper, precedes}
use Rattle.plane_graphs.specs.Piece.{Piece, Present}
use Rattle.plane_graphs.proofs.Lines.{whole_is_proper, lower_on, upper_on, along_in}
use Rattle.plane_graphs.proofs.Lists.{in_either}
use Rattle.plane_graphs.proofs.Order.{Lt, lt_in, lt_out, lt_never}
use Rattle.present_graphs.specs.Spans.{AreFit}
use Rattle.integers.proofs.Tests.{not_true}

never_before : (p q : Point) → p ≡ q → precedes p q ≡ false
never_before p q e = not_true (precedes p q) (λ h. lt_never (subst (λ r. Lt r q) e (lt_out p q h)))

-- a whole segment as a piece
pub whole_fit : (k : Piece) → AreEnds k.segment → k.from ≡ k.segment.lower → k.to ≡ k.segment.upper → k.side ≡ 1 → IsFitPiece k
whole_fit k h f t d =
    let s : Segment = k.segment in
    let lower : IsWhole k.segment.lower = ap (λ (r : Segment). r.lower.w) h.whole in
    let upper : IsWhole k.segment.upper = ap (λ (r : Segment). r.upper.w) h.whole in
    let ahead : Lt k.segment.lower k.segment.upper = record { is = ap (λ (r : Segment). point_cmp r.lower r.upper) h.whole ∙ h.is.ascending } in
    record {
      lower = lower;
      upper = upper;
      ahead = lt_in ahead;
      from = subst IsProper (sym f) (whole_is_proper s.lower lower);
      to = subst IsProper (sym t) (whole_is_proper s.upper upper);
      forward = lt_in (subst (λ p. Lt p k.to) (sym f) (subst (λ p. Lt s.lower p) (sym t) ahead));
      from_on = along_in k k.from (subst (λ p. side_of (line_of_segment k.segment) p ≡ pos 0) (sym f) (lower_on s lower upper ahead));
      to_on = along_in k k.to (subst (λ p. side_of (line_of_segment k.segment) p ≡ pos 0) (sym t) (upper_on s lower upper ahead));
      from_within = never_before k.from s.lower f;
      to_within = never_before s.upper k.to (sym t);
      first_side = omega arith;
      last_side = omega arith;
    }

-- the pieces are fit, and their curves' numbers are at most n and tell them apart
pub record IsDrawing (ks : List Piece) (n : ℕ) : Type 0 where
  pub fit : AreFit ks
  pub below : (k : Piece) → Member k ks → k.curve ≤ n
  pub one : (k m : Piece) → Member k ks → Member m ks → k.curve ≡ m.curve → k ≡ m

pub one_drawn : (ks new : List Piece) (n : ℕ) (k : Piece) → IsDrawing ks n → IsFitPiece k → k.curve ≡ n + 1 → new ≡ ks ++ k ∷ [] → IsDrawing new (n + 1)
one_drawn ks new n k d h c e = subst (λ ls. IsDrawing ls (n + 1)) (sym e) (record {
  fit = λ l m. ⊎_elim (λ a. d.fit l a) (λ a. subst IsFitPiece (sym a) h) (old_or l m);
  below = λ l m. ⊎_elim (λ a. low l (d.below l a)) (λ a. at l a) (old_or l m);
  one = λ l m a b i. both l m i (old_or l a) (old_or m b);
})
  where
    old_or : (l : Piece) → Member l (ks ++ k ∷ []) → Member l ks ⊎ (l ≡ k)
    old_or l m = ⊎_elim (λ a. inl a) (λ a. ⊎_elim (λ i. inr i) (λ z. absurd z) a) (in_either l ks (k ∷ []) m)

    low : (l : Piece) → l.curve ≤ n → l.curve ≤ n + 1
    low l a = omega arith

    at : (l : Piece) → l ≡ k → l.curve ≤ n + 1
    at l a = let i = ap (λ (z : Piece). z.curve) a ∙ c in omega arith

    apart : (l m : Piece) → Member l ks → m ≡ k → l.curve ≡ m.curve → l ≡ m
    apart l m a b i = let j = i ∙ ap (λ (z : Piece). z.curve) b ∙ c in let u = d.below l a in absurd (omega arith)

    both : (l m : Piece) → l.curve ≡ m.curve → Member l ks ⊎ (l ≡ k) → Member m ks ⊎ (m ≡ k) → l ≡ m
    both l m i (inl a) (inl b) = d.one l m a b i
    both l m i (inl a) (inr b) = apart l m a b i
    both l m i (inr a) (inl b) = sym (apart m l b a (sym i))
    both l m i (inr a) (inr b) = a ∙ sym b

pub drawing_fit : (p : Present) (n : ℕ) (pin : Point) → IsDrawing p.pieces n → IsProper pin → p.pins ≡ pin ∷ [] → IsFit p
drawing_fit p n pin d h e = record {
  piece = d.fit;
  pin = λ r m. ⊎_elim (λ i. subst IsProper (sym i) h) (λ z. absurd z) (subst (λ rs. Member r rs) e m);
  pins_ascend = subst (IsAscending point_cmp) (sym e) (tt, tt);
  one_segment = λ k m a b i. ap (λ (z : Piece). z.segment) (d.one k m a b i.0);
  one_piece = λ k m a b i t pt u v. d.one k m a b i.0;
}
