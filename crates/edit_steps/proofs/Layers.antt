-- Layers stay lawful: the names of curves, and the pieces that bear them.
use Rattle.std.proofs.Common.{◌≡◌, ℕ, ◌<◌, ◌≤◌, List, [], ◌∷◌, ◌++◌, false, not, ◌&&◌, cond, sym, ap, refl, subst, inl, inr, ⊎_elim, arith}
use Rattle.std.specs.List.{AllByRecursion, list_any}
use Rattle.std.specs.Ordering.{nat_cmp}
use Rattle.std.specs.Cmp.{nat_cmp_is}
use Rattle.std.specs.declared.cmp.Ordering.TheVariants.{Less}
use Rattle.exact_plane.specs.Point.{Point}
use Rattle.exact_plane.specs.Segment.{Segment}
use Rattle.plane_graphs.specs.Ascending.{Member, IsAscending}
use Rattle.plane_graphs.specs.Graph.{same_curve}
use Rattle.plane_graphs.specs.Line.{precedes}
use Rattle.plane_graphs.specs.Piece.{Piece, on}
use Rattle.plane_graphs.specs.Fit.{IsFit}
use Rattle.edit_steps.specs.Steps.{cut_piece}
use Rattle.edit_steps.specs.Edits.{Edit, Insert, Drop, Cut, Pin, Unpin, Split, Merge, ClearAll, path_pieces, after, IsAccepted}
use Rattle.edit_steps.specs.Layer.{Layer, layer_after, IsAcceptedBy, IsLawful, ArePiecesOnce, empty_layer, names_after, next_after}
use Rattle.edit_steps.specs.EditLaws.{LayersAreLawful}
use Rattle.plane_graphs.proofs.Lists.{any_out, in_either, in_left, in_right, in_filter, of_filter, of_flat_map, if_out, one_if, IsAscending-filter}
use Rattle.plane_graphs.proofs.Order.{curve_out}
use Rattle.edit_steps.proofs.Laws.{keeps_fit, fit_empty, of_curve}
use Rattle.edit_steps.proofs.Once.{pieces_stay_once}
use Rattle.integers.proofs.Tests.{not_true}

-- ---- names
-- a number above all ends an ascending list
below_last : (c n : ℕ) (ns : List ℕ) → n < c → AllByRecursion (λ y. nat_cmp n y ≡ Less) ns → AllByRecursion (λ y. nat_cmp n y ≡ Less) (ns ++ (c ∷ []))
below_last c n [] h a = (sym (nat_cmp_is n c Less h), tt)
below_last c n (m ∷ ns) h a = (a.0, below_last c n ns h a.1)

ascend_last : (c : ℕ) (ns : List ℕ) → ((n : ℕ) → Member n ns → n < c) → IsAscending nat_cmp ns → IsAscending nat_cmp (ns ++ (c ∷ []))
ascend_last c [] f a = (tt, tt)
ascend_last c (n ∷ ns) f a = (below_last c n ns (f n (inl refl)) a.0, ascend_last c ns (λ m h. f m (inr h)) a.1)

-- what is left of a piece is of its curve
cut_curve : (a b : Point) (k j : Piece) → Member j (cut_piece a b k) → j.curve ≡ k.curve
unfolding cut_piece
cut_curve a b k j m =
    ⊎_elim
    (λ t. ⊎_elim
    (λ u. ap (λ (z : Piece). z.curve) (one_if (precedes k.from a) j (record k { to = a }) u).1)
    (λ u. ap (λ (z : Piece). z.curve) (one_if (precedes b k.to) j (record k { from = b }) u).1)
    (in_either j (cond (precedes k.from a) (record k { to = a } ∷ []) []) (cond (precedes b k.to) (record k { from = b } ∷ []) []) t.1))
    (λ t. ⊎_elim (λ e. ap (λ (z : Piece). z.curve) e) (λ z. absurd z) t.1)
    (if_out (on k a && on k b) j (cond (precedes k.from a) (record k { to = a } ∷ []) [] ++ cond (precedes b k.to) (record k { from = b } ∷ []) []) (k ∷ []) m)

-- ---- layers
empty_lawful : (first : ℕ) → 1 ≤ first → IsLawful (empty_layer first)
empty_lawful first h = record { fit = fit_empty; once = tt; named = λ k m. absurd m; ascend = tt; least = λ n m. absurd m; drawn = λ n m. absurd m; first = h }

module _ (l : Layer) (w : IsLawful l) where
  -- no piece has a number that was not drawn
  fresh : (c : ℕ) → c ≡ l.next → list_any (λ k. same_curve k.curve c) l.present.pieces ≡ false
  fresh c e = not_true _ (λ t. let k = any_out (λ k. same_curve k.curve c) l.present.pieces t in undrawn k.0 k.1 (curve_out k.0.curve c k.2))
    where
      undrawn : (k : Piece) → Member k l.present.pieces → k.curve ≡ c → ⊥
      undrawn k m f = let d : k.curve < l.next = w.drawn k.curve (w.named k m) in omega arith

  accepts : (e : Edit) → IsAcceptedBy e l → IsAccepted e l.present
  unfolding IsAccepted
  accepts (Insert c ss) h = record { sides = h.1; fresh = fresh c h.0 }
  accepts (Drop c) h = h
  accepts (Cut a b) h = h
  accepts (Pin r) h = h
  accepts (Unpin r) h = h
  accepts (Split a b r) h = h
  accepts (Merge r) h = h
  accepts ClearAll h = h

  is_fit : (e : Edit) → IsAcceptedBy e l → IsFit (after e l.present)
  is_fit e h = keeps_fit e l.present w.fit (accepts e h)

  is_once : (e : Edit) → IsAcceptedBy e l → ArePiecesOnce (after e l.present).pieces
  is_once e h = pieces_stay_once e l.present w.fit (accepts e h) w.once

  -- an edit that takes no name and gives none
  same_names : (e : Edit) → IsAcceptedBy e l → ((k : Piece) → Member k (after e l.present).pieces → Member k.curve l.names) → names_after e l.names ≡ l.names → next_after e l.next ≡ l.next → IsLawful (layer_after e l)
  same_names e h f n m = record {
    fit = is_fit e h;
    once = is_once e h;
    named = λ k i. subst (Member k.curve) (sym n) (f k i);
    ascend = subst (IsAscending nat_cmp) (sym n) w.ascend;
    least = λ c i. w.least c (subst (Member c) n i);
    drawn = λ c i. subst (λ z. c < z) (sym m) (w.drawn c (subst (Member c) n i));
    first = subst (λ z. 1 ≤ z) (sym m) w.first;
  }

  -- one more name
  inserted : (c : ℕ) (ss : List Segment) → IsAcceptedBy (Insert c ss) l → IsLawful (layer_after (Insert c ss) l)
  unfolding after
  inserted c ss h = record {
    fit = is_fit (Insert c ss) h;
    once = is_once (Insert c ss) h;
    named = λ k m. ⊎_elim (λ i. in_left k.curve l.names (c ∷ []) (w.named k i)) (λ i. in_right k.curve l.names (c ∷ []) (inl (of_curve c ss k i))) (in_either k l.present.pieces (path_pieces c ss) m);
    ascend = ascend_last c l.names (λ n m. let d = w.drawn n m in let e = h.0 in omega arith) w.ascend;
    least = λ n m. ⊎_elim (λ i. w.least n i) (λ i. ⊎_elim (λ e. let f = w.first in let g = h.0 in omega arith) (λ z. absurd z) i) (in_either n l.names (c ∷ []) m);
    drawn = λ n m. ⊎_elim (λ i. let d = w.drawn n i in omega arith) (λ i. ⊎_elim (λ e. let g = h.0 in omega arith) (λ z. absurd z) i) (in_either n l.names (c ∷ []) m);
    first = let f = w.first in omega arith;
  }

  -- one name fewer
  dropped : (c : ℕ) → IsAcceptedBy (Drop c) l → IsLawful (layer_after (Drop c) l)
  unfolding after
  dropped c h = record {
    fit = is_fit (Drop c) h;
    once = is_once (Drop c) h;
    named = λ k m. let o = of_filter (λ k. not (same_curve k.curve c)) k l.present.pieces m in in_filter (λ n. not (same_curve n c)) k.curve l.names (w.named k o.0) o.1;
    ascend = IsAscending-filter nat_cmp (λ n. not (same_curve n c)) l.names w.ascend;
    least = λ n m. w.least n (of_filter (λ n. not (same_curve n c)) n l.names m).0;
    drawn = λ n m. w.drawn n (of_filter (λ n. not (same_curve n c)) n l.names m).0;
    first = w.first;
  }

  stays : (e : Edit) → IsAcceptedBy e l → IsLawful (layer_after e l)
  unfolding after
  stays (Insert c ss) h = inserted c ss h
  stays (Drop c) h = dropped c h
  stays (Cut a b) h = same_names (Cut a b) h (λ k m. let o = of_flat_map (cut_piece a b) k l.present.pieces m in subst (λ n. Member n l.names) (sym (cut_curve a b o.0 k o.2)) (w.named o.0 o.1)) refl refl
  stays (Pin r) h = same_names (Pin r) h w.named refl refl
  stays (Unpin r) h = same_names (Unpin r) h w.named refl refl
  stays (Split a b r) h = same_names (Split a b r) h w.named refl refl
  stays (Merge r) h = same_names (Merge r) h w.named refl refl
  stays ClearAll h = record { fit = is_fit ClearAll h; once = tt; named = λ k m. absurd m; ascend = tt; least = λ n m. absurd m; drawn = λ n m. absurd m; first = w.first }

pub layers_lawful : LayersAreLawful
layers_lawful = record { empty = empty_lawful; accepted = λ e l w h. accepts l w e h; stay = λ e l w h. stays l w e h }
