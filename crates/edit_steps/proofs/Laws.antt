-- The laws for each edit.
use Rattle.std.proofs.Common.{◌≡◌, ℕ, suc, ◌≤◌, ◌<◌, ◌+◌, List, length, [], ◌∷◌, false, refl, sym, ap, ◌∙◌, subst, inl, inr, ◌⊎◌, ⊎_elim, arith}
use Rattle.exact_plane.specs.Point.{Point}
use Rattle.exact_plane.specs.PointOrder.{point_cmp}
use Rattle.exact_plane.specs.PointOrderLaws.{point_cmp_total, same_point as point_cmp_exact}
use Rattle.plane_graphs.specs.Line.{precedes, same_point, IsProper}
use Rattle.exact_plane.specs.Segment.{Segment}
use Rattle.plane_graphs.specs.Piece.{Piece, Present}
use Rattle.plane_graphs.specs.Graph.{graph, same_curve}
use Rattle.edit_steps.specs.Steps.{with_pieces, with_pin}
use Rattle.plane_graphs.specs.Fit.{IsFit, IsFitPiece, AreOfOneSide}
use Rattle.edit_steps.specs.Edits.{Edit, Insert, Drop, Cut, Pin, Unpin, Split, Merge, ClearAll, whole_piece, sides_from, path_pieces, IsSide, IsNew, IsAccepted, after, steps}
use Rattle.edit_steps.specs.EditLaws.{EditsKeepFit, StepsMakeGraph, StepsAreSound}
use Rattle.plane_graphs.specs.Ascending.{Member}
use Rattle.plane_graphs.proofs.Ascending.{IsAscending-place}
use Rattle.plane_graphs.proofs.Lists.{any_none, any_out, in_either, of_place}
use Rattle.plane_graphs.proofs.Order.{lt_out, lt_never, curve_in, same_itself, same_out}
use Rattle.plane_graphs.proofs.Lines.{geometry, whole_is_proper, lower_on, upper_on, along_in}
use Rattle.edit_steps.proofs.Edits.{Leads, path_leads, pin_leads, unpin_leads, clear_leads, fit_unpin}
use Rattle.edit_steps.proofs.Removals.{drop_leads, fit_drop, cut_leads, split_leads, merge_leads}
use Rattle.integers.proofs.Tests.{not_true}

not_before_itself : (q : Point) → precedes q q ≡ false
not_before_itself q = not_true (precedes q q) (λ e. lt_never (lt_out q q e))

-- ---- the sides of a new curve
-- one of the sides that are numbered from j
pub record IsOneOf (c j : ℕ) (ss : List Segment) (k : Piece) : Type 0 where
  pub segment_in : Member k.segment ss
  pub whole : k ≡ whole_piece c k.side k.segment
  pub from_first : j ≤ k.side
  pub to_last : k.side < j + length ss

pub side_out : (c j : ℕ) (ss : List Segment) (k : Piece) → Member k (sides_from c j ss) → IsOneOf c j ss k
side_out c j [] k h = absurd h
side_out c j (s ∷ ss) k (inl e) = subst (IsOneOf c j (s ∷ ss)) (sym e) (record { segment_in = inl refl; whole = refl; from_first = omega arith; to_last = omega arith })
side_out c j (s ∷ ss) k (inr h) =
    let i = side_out c (suc j) ss k h in
    let f = i.from_first in
    let l = i.to_last in
    record { segment_in = inr i.segment_in; whole = i.whole; from_first = omega arith; to_last = omega arith }

-- each number stands once
one_number : (c j : ℕ) (ss : List Segment) (k m : Piece) → Member k (sides_from c j ss) → Member m (sides_from c j ss) → k.side ≡ m.side → k ≡ m
one_number c j [] k m h i e = absurd h
one_number c j (s ∷ ss) k m (inl f) (inl g) e = f ∙ sym g
one_number c j (s ∷ ss) k m (inl f) (inr i) e = let a = (side_out c (suc j) ss m i).from_first in let b = ap (λ (z : Piece). z.side) f in absurd (omega arith)
one_number c j (s ∷ ss) k m (inr h) (inl g) e = let a = (side_out c (suc j) ss k h).from_first in let b = ap (λ (z : Piece). z.side) g in absurd (omega arith)
one_number c j (s ∷ ss) k m (inr h) (inr i) e = one_number c (suc j) ss k m h i e

pub of_curve : (c : ℕ) (ss : List Segment) (k : Piece) → Member k (path_pieces c ss) → k.curve ≡ c
of_curve c ss k h = ap (λ (z : Piece). z.curve) (side_out c 1 ss k h).whole

module _ (c j : ℕ) (s : Segment) (h : IsSide s) (first : 1 ≤ j) (last : j ≤ 8) where
  new_piece : IsFitPiece (whole_piece c j s)
  new_piece = record {
    lower = h.lower;
    upper = h.upper;
    ahead = h.forward;
    from = whole_is_proper s.lower h.lower;
    to = whole_is_proper s.upper h.upper;
    forward = h.forward;
    from_on = along_in (whole_piece c j s) s.lower (lower_on s h.lower h.upper (lt_out s.lower s.upper h.forward));
    to_on = along_in (whole_piece c j s) s.upper (upper_on s h.lower h.upper (lt_out s.lower s.upper h.forward));
    from_within = not_before_itself s.lower;
    to_within = not_before_itself s.upper;
    first_side = first;
    last_side = last;
  }

module _ (c : ℕ) (ss : List Segment) (p : Present) (fit : IsFit p) (h : IsNew c ss p) where
  new_fit : (k : Piece) → Member k (path_pieces c ss) → IsFitPiece k
  new_fit k m =
      let i = side_out c 1 ss k m in
      let few = h.sides.few in
      let l = i.to_last in
      subst IsFitPiece (sym i.whole) (new_piece c k.side k.segment (h.sides.each k.segment i.segment_in) i.from_first (omega arith))

  pub fresh_of : (j k : Piece) → Member j p.pieces → Member k (path_pieces c ss) → j.curve ≡ k.curve → ⊥
  fresh_of j k m n e = any_none (λ k. same_curve k.curve c) j p.pieces h.fresh m (curve_in j.curve c (e ∙ of_curve c ss k n))

  -- a piece is an old one of another curve, or a new one
  kind : (k : Piece) → Member k (with_pieces p (path_pieces c ss)).pieces → Member k p.pieces ⊎ Member k (path_pieces c ss)
  kind k m = in_either k p.pieces (path_pieces c ss) m

  -- two pieces of one side are both old, or the same new one
  alike : (k m : Piece) → Member k (with_pieces p (path_pieces c ss)).pieces → Member m (with_pieces p (path_pieces c ss)).pieces → AreOfOneSide k m → (Member k p.pieces × Member m p.pieces) ⊎ (k ≡ m)
  alike k m a b e =
      ⊎_elim (λ n. ⊎_elim (λ o. inl (n, o)) (λ o. absurd (fresh_of k m n o e.0)) (kind m b))
      (λ n. ⊎_elim (λ o. absurd (fresh_of m k o n (sym e.0))) (λ o. inr (one_number c 1 ss k m n o e.1)) (kind m b)) (kind k a)

  fit_insert : IsFit (with_pieces p (path_pieces c ss))
  fit_insert = record {
    piece = λ k m. ⊎_elim (λ n. fit.piece k n) (λ n. new_fit k n) (kind k m);
    pin = fit.pin;
    pins_ascend = fit.pins_ascend;
    one_segment = λ k m a b e. ⊎_elim (λ n. fit.one_segment k m n.0 n.1 e) (λ n. ap (λ (z : Piece). z.segment) n) (alike k m a b e);
    one_piece = λ k m a b e t pt x y. ⊎_elim (λ n. fit.one_piece k m n.0 n.1 e t pt x y) (λ n. n) (alike k m a b e);
  }

fit_pin : (p : Present) (r : Point) → IsFit p → IsProper r → IsFit (with_pin p r)
fit_pin p r fit pr = record {
  piece = fit.piece;
  pin = λ q m. ⊎_elim (λ e. subst IsProper (sym e) pr) (λ n. fit.pin q n) (of_place point_cmp point_cmp_total point_cmp_exact q r p.pins m);
  pins_ascend = IsAscending-place point_cmp point_cmp_total r p.pins fit.pins_ascend;
  one_segment = fit.one_segment;
  one_piece = fit.one_piece;
}

pub fit_empty : IsFit (record { pieces = []; pins = [] })
fit_empty = record {
  piece = λ k m. absurd m;
  pin = λ r m. absurd m;
  pins_ascend = tt;
  one_segment = λ k m a b. absurd a;
  one_piece = λ k m a b. absurd a;
}

pub keeps_fit : EditsKeepFit
unfolding after IsAccepted
keeps_fit (Insert c ss) p fit h = fit_insert c ss p fit h
keeps_fit (Drop c) p fit h = fit_drop geometry p c fit
keeps_fit (Cut a b) p fit h = (cut_leads geometry p fit a b h).1
keeps_fit (Pin r) p fit h = fit_pin p r fit h.0
keeps_fit (Unpin r) p fit h = fit_unpin geometry p r fit
keeps_fit (Split a b r) p fit h = fit_pin p r fit h.0
keeps_fit (Merge r) p fit h = fit_unpin geometry p r fit
keeps_fit ClearAll p fit h = fit_empty

pub leads : (e : Edit) (p : Present) → IsFit p → IsAccepted e p → Leads (steps e p) (graph p) (graph (after e p))
unfolding after steps IsAccepted
leads (Insert c ss) p fit h = path_leads geometry p (path_pieces c ss) (fit_insert c ss p fit h) (fresh_of c ss p fit h) (λ j k m n. of_curve c ss j m ∙ sym (of_curve c ss k n))
leads (Drop c) p fit h = drop_leads geometry p fit c
leads (Cut a b) p fit h = (cut_leads geometry p fit a b h).0
leads (Pin r) p fit h = pin_leads geometry p fit r h.0 (λ m. any_none (same_point r) r p.pins h.1 m (same_itself r))
leads (Unpin r) p fit h = unpin_leads geometry p fit r (let w = any_out (same_point r) p.pins h in subst (λ z. Member z p.pins) (sym (same_out r w.0 w.2)) w.1)
leads (Split a b r) p fit h = split_leads geometry p fit a b r h.0 h.1
leads (Merge r) p fit h = merge_leads geometry p fit r h.0 h.1 h.2
leads ClearAll p fit h = clear_leads geometry p

pub make_graph : StepsMakeGraph
make_graph e p fit h = (leads e p fit h).there

pub are_sound : StepsAreSound
are_sound e p fit h = (leads e p fit h).sound
