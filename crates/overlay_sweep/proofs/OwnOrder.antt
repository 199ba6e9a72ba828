-- Sorted own edges: where a part of one begins, one search finds the edge.
use Rattle.std.proofs.Common.{◌≡◌, ℕ, ◌<◌, Bool, true, false, arith, refl, sym, ap, ◌∙◌, subst, inl, inr, List, length, get_or, Ordering, Less, Equal, Greater, is_lt}
use Rattle.std.specs.Cmp.{IsTotalOrder, IsStrictWeakOrder}
use Rattle.std.specs.List.Sorted.{IsPartitionedBy, IsPartitionPoint, IsPermutation, IsSorted}
use Rattle.std.specs.Ordering.{ordering_reverse}
use Rattle.std.proofs.lemmas.Bool.{cases_lt, false≢true}
use Rattle.std.proofs.lemmas.Cmp.{then_total, on_total, tied_back}
use Rattle.std.proofs.lemmas.List.MinMax.{ranks_by}
use Rattle.std.proofs.lemmas.List.Sorted.{sorted_far, Contains-permutation, IsPermutation-sym}
use Rattle.exact_plane.specs.PointOrderLaws.{point_cmp_total}
use Rattle.exact_plane.proofs.SlopeLaws.{rise_cmp_total}
use Rattle.plane_graphs.specs.Ascending.{Member}
use Rattle.plane_graphs.specs.Piece.{Present}
use Rattle.plane_graphs.proofs.Ascending.{to_member, from_member}
use Rattle.plane_graphs.proofs.Lists.{decide}
use Rattle.plane_graphs.proofs.Sorting.{any_default}
use Rattle.overlay_sweep.specs.declared.own.OwnEdge.{OwnEdge}
use Rattle.overlay_sweep.specs.OwnEdges.{begin_cmp, own_at, no_own, AreOwnEdges}

pub begin_cmp_total : IsTotalOrder begin_cmp
begin_cmp_total = then_total (on_total (λ (k : OwnEdge). k.span.lower) point_cmp_total) (on_total (λ (k : OwnEdge). k.span.line) rise_cmp_total)

abbrev pub comes : OwnEdge → OwnEdge → Bool
comes k l = is_lt (begin_cmp k l)

pub weak : IsStrictWeakOrder comes
weak = ranks_by begin_cmp_total (λ (k : OwnEdge). k)

abbrev pub is_before : OwnEdge → OwnEdge → Bool
is_before w k = comes k w

neither : (o : Ordering) → is_lt o ≡ false → is_lt (ordering_reverse o) ≡ false → o ≡ Equal
neither Less a b = cc
neither Equal a b = refl
neither Greater a b = cc

level : (k l : OwnEdge) → comes k l ≡ false → comes l k ≡ false → begin_cmp k l ≡ Equal
level k l a b = neither (begin_cmp k l) a (ap is_lt (sym (begin_cmp_total.antisymm l k)) ∙ b)

module _ (ks : List OwnEdge) (up : IsSorted begin_cmp ks) (w : OwnEdge) where
  pub parted_own : IsPartitionedBy (is_before w) ks
  parted_own i j d h l t =
      let x = get_or ks i d in
      let y = get_or ks j d in
      elim (decide (comes x w)) [
        | inl a ↦ a
        | inr a ↦ absurd (false≢true (sym (weak.chain y x w (sorted_far comes weak ks up i j d h l) a) ∙ t))
      ]

  pub level_at : (n : ℕ) → IsPartitionPoint (λ k. is_before w k ≡ true) (λ k. is_before w k ≡ false) ks n → (k : OwnEdge) → Member k ks → begin_cmp k w ≡ Equal → (n < length ks) × (begin_cmp (own_at ks n) w ≡ Equal)
  level_at n cut k m e =
      let a = from_member ks k m in
      let A = a.1 in
      let is : get_or ks a.0 no_own ≡ k = any_default ks a.0 no_own k a.1 ∙ a.2 in
      let not_before : comes k w ≡ false = ap is_lt e in
      let not_after : comes w k ≡ false = ap is_lt (tied_back begin_cmp_total k w e) in
      elim (cases_lt a.0 n) [
        | inl l ↦ absurd (false≢true (sym not_before ∙ subst (λ z. comes z w ≡ true) is (cut.0 a.0 no_own (omega arith) l)))
        | inr l ↦
            let N : n < length ks = omega arith in
            let far : comes k (own_at ks n) ≡ false = subst (λ z. comes z (own_at ks n) ≡ false) is (sorted_far comes weak ks up n a.0 no_own l A) in
            (N, level (own_at ks n) w (cut.1 n no_own (omega arith) N) (weak.chain w k (own_at ks n) not_after far))
      ]

-- the same edges in another order
module _ (p : Present) (us vs : List OwnEdge) (moved : IsPermutation us vs) where
  there : (k : OwnEdge) → Member k us → Member k vs
  there k m = to_member vs k (Contains-permutation us vs k moved (from_member us k m))

  back : (k : OwnEdge) → Member k vs → Member k us
  back k m = to_member us k (Contains-permutation vs us k (IsPermutation-sym us vs moved) (from_member vs k m))

  pub still_own : AreOwnEdges p us → AreOwnEdges p vs
  still_own h = record {
    own = λ k m. h.own k (back k m);
    all = λ e E. let a = h.all e E in (a.0, there a.0 a.1, a.2);
    over = λ k m. h.over k (back k m);
  }
