-- Parts in order are the marks in order.
use Rattle.std.proofs.Common.{◌≡◌, ◌⊎◌, ⊎_elim, inl, inr, ℕ, suc, ◌<◌, ◌==◌, ◌&&◌, Bool, true, false, cond, List, [], ◌∷◌, length, map, refl, sym, ap, ap₂, subst, ◌∙◌, arith, Ordering, Less, Equal, Greater, eqb, is_eq}
use Rattle.std.specs.Cmp.{IsTotalOrder, on_total}
use Rattle.std.specs.List.{AllByRecursion}
use Rattle.std.specs.List.Retain.{IsFiltered, DiffersFromLast}
use Rattle.std.specs.List.Sorted.{IsPermutation, IsSorted}
use Rattle.std.specs.Ordering.{eq_by_cmp, ordering_reverse, ordering_then, nat_cmp}
use Rattle.std.proofs.lemmas.Bool.{cases_eq, cases_lt, eqb-true, eq-eqb, false≢true}
use Rattle.std.proofs.lemmas.Cmp.{nat_cmp_total, then_total, tied_itself}
use Rattle.std.proofs.lemmas.List.{map-id}
use Rattle.exact_plane.specs.Point.{Point}
use Rattle.exact_plane.specs.PointOrder.{point_cmp}
use Rattle.exact_plane.specs.PointOrderLaws.{and_true, point_cmp_total}
use Rattle.plane_graphs.specs.Ascending.{ascending, Member, IsAscending}
use Rattle.plane_graphs.specs.Graph.{Mark, mark, mark_cmp}
use Rattle.plane_graphs.specs.Strands.{strand}
use Rattle.plane_graphs.proofs.Arranged.{arranged}
use Rattle.plane_graphs.proofs.Ascending.{All-member, IsAscending-ascending, IsAscending-map, ascending_unique}
use Rattle.plane_graphs.proofs.Lists.{and_in, decide, in_map, of_map, in_ascending, of_ascending}
use Rattle.plane_graphs.proofs.Order.{mark_cmp_total, mark_cmp_exact}
use Rattle.plane_graphs.proofs.Sorting.{all_members, rises}
use Rattle.integers.proofs.Tests.{nat_exact, nat_less, nat_tied, nat_more, number_ties, both_equal}
use Rattle.side_parts.specs.declared.part.Part.{Part}
use Rattle.side_parts.specs.SideParts.{part_cmp, point_at, strand_mark, edge_mark, same_ends, edge_marks, edge_marks_after, IsPartIn}

-- ---- parts go by three numbers
part_total : IsTotalOrder part_cmp
part_total = then_total (on_total (λ (t : Part). t.low) nat_cmp_total) (then_total (on_total (λ (t : Part). t.high) nat_cmp_total) (on_total (λ (t : Part). t.side) nat_cmp_total))

pub part_ties : (t u : Part) → eqb t.low u.low && (eqb t.high u.high && eqb t.side u.side) ≡ eq_by_cmp part_cmp t u
part_ties t u =
    ap₂ ◌&&◌ (number_ties t.low u.low) (ap₂ ◌&&◌ (number_ties t.high u.high) (number_ties t.side u.side) ∙ both_equal (nat_cmp t.high u.high) (nat_cmp t.side u.side))
    ∙ both_equal (nat_cmp t.low u.low) (ordering_then (nat_cmp t.high u.high) (nat_cmp t.side u.side))

part_exact : (t u : Part) → part_cmp t u ≡ Equal → t ≡ u
part_exact t u e =
    let all = and_true (eqb t.low u.low) (eqb t.high u.high && eqb t.side u.side) (part_ties t u ∙ ap is_eq e) in
    let rest = and_true (eqb t.high u.high) (eqb t.side u.side) all.1 in
    let a = eqb-true t.low u.low all.0 in
    let b = eqb-true t.high u.high rest.0 in
    let c = eqb-true t.side u.side rest.1 in
    λ i. record { low = a i; high = b i; side = c i }

pub in_order : (old mid out : List Part) (E : Part → Part → Bool) → ((t u : Part) → E t u ≡ eq_by_cmp part_cmp t u) → IsPermutation old mid → IsSorted part_cmp mid → IsFiltered (DiffersFromLast E) [] mid out → out ≡ ascending part_cmp old
in_order old mid out E ties moved sorted kept = sym (map-id out) ∙ arranged (λ (t : Part). t) part_cmp part_total part_exact old mid moved E out ties sorted kept ∙ ap (ascending part_cmp) (map-id old)

-- ---- places in order are points in order
three : (m n : ℕ) → (m < n) ⊎ ((m ≡ n) ⊎ (n < m))
three m n = ⊎_elim (λ l. inl l) (λ g. ⊎_elim (λ e. inr (inl e)) (λ ne. inr (inr (omega arith))) (cases_eq m n)) (cases_lt m n)

module _ (r : Ordering) (m n : ℕ) (less : m < n → r ≡ Less) (same : m ≡ n → r ≡ Equal) (more : n < m → r ≡ Greater) where
  agrees : r ≡ nat_cmp m n
  agrees = ⊎_elim (λ l. less l ∙ sym (nat_less m n l)) (λ o. ⊎_elim (λ e. same e ∙ sym (nat_tied m n e)) (λ g. more g ∙ sym (nat_more m n g)) o) (three m n)

module _ (ps : List Point) (a : IsAscending point_cmp ps) (c : ℕ) where
  point_agrees : (i j : ℕ) → i < length ps → j < length ps → point_cmp (point_at ps i) (point_at ps j) ≡ nat_cmp i j
  point_agrees i j x y = agrees (point_cmp (point_at ps i) (point_at ps j)) i j
      (λ l. rises point_cmp ps a i j _ l y)
      (λ e. subst (λ k. point_cmp (point_at ps i) (point_at ps k) ≡ Equal) e (tied_itself point_cmp_total (point_at ps i)))
      (λ g. point_cmp_total.antisymm (point_at ps i) (point_at ps j) ∙ ap ordering_reverse (rises point_cmp ps a j i _ g x))

  strand_agrees : (s r : ℕ) → nat_cmp (strand c (suc s)) (strand c (suc r)) ≡ nat_cmp s r
  strand_agrees s r = agrees (nat_cmp (strand c (suc s)) (strand c (suc r))) s r
      (λ l. nat_less (strand c (suc s)) (strand c (suc r)) (omega (arith, l)))
      (λ e. nat_tied (strand c (suc s)) (strand c (suc r)) (omega (arith, e)))
      (λ g. nat_more (strand c (suc s)) (strand c (suc r)) (omega (arith, g)))

  low_in : (t : Part) → IsPartIn ps t → t.low < length ps
  low_in t w = let h = w.ahead in let k = w.within in omega arith

  mark_agrees : (t u : Part) → IsPartIn ps t → IsPartIn ps u → mark_cmp (strand_mark ps c t) (strand_mark ps c u) ≡ part_cmp t u
  unfolding mark_cmp
  mark_agrees t u w v = ap₂ ordering_then (point_agrees t.low u.low (low_in t w) (low_in u v)) (ap₂ ordering_then (point_agrees t.high u.high w.within v.within) (strand_agrees t.side u.side))

  pub strands_ascend : (ts : List Part) → AllByRecursion (IsPartIn ps) ts → IsAscending part_cmp ts → IsAscending mark_cmp (map (strand_mark ps c) ts)
  strands_ascend ts w = IsAscending-map part_cmp mark_cmp (strand_mark ps c) ts (λ t u m n l. mark_agrees t u (All-member (IsPartIn ps) t ts w m) (All-member (IsPartIn ps) u ts w n) ∙ l)

  -- ---- one mark for an edge
  pub ends_agree : (t u : Part) → same_ends t u ≡ true → edge_mark ps c t ≡ edge_mark ps c u
  ends_agree t u e =
      let b = and_true (t.low == u.low) (t.high == u.high) e in
      ap₂ (λ i j. mark (point_at ps i) (point_at ps j) c) (eqb-true t.low u.low b.0) (eqb-true t.high u.high b.1)

  then_less : (r s : Ordering) (d : Ordering) → ordering_then r (ordering_then s d) ≡ Less → (r ≡ Equal → s ≡ Equal → ⊥) → ordering_then r (ordering_then s Equal) ≡ Less
  then_less Less s d e f = refl
  then_less Equal Less d e f = refl
  then_less Equal Equal d e f = absurd (f refl refl)
  then_less Equal Greater d e f = e
  then_less Greater s d e f = e

  edge_below : (t u : Part) → IsPartIn ps t → IsPartIn ps u → part_cmp t u ≡ Less → same_ends t u ≡ false → mark_cmp (edge_mark ps c t) (edge_mark ps c u) ≡ Less
  unfolding mark_cmp
  edge_below t u w v b d =
      ap₂ ordering_then (point_agrees t.low u.low (low_in t w) (low_in u v)) (ap₂ ordering_then (point_agrees t.high u.high w.within v.within) (tied_itself nat_cmp_total c))
      ∙ then_less (nat_cmp t.low u.low) (nat_cmp t.high u.high) (nat_cmp t.side u.side) b (λ x y. differ (nat_exact t.low u.low x) (nat_exact t.high u.high y))
    where
      differ : t.low ≡ u.low → t.high ≡ u.high → ⊥
      differ x y = false≢true (sym d ∙ and_in (eq-eqb t.low u.low x) (eq-eqb t.high u.high y))

  record IsAfter (t : Part) (ms : List Mark) : Type 0 where
    below : AllByRecursion (λ m. mark_cmp (edge_mark ps c t) m ≡ Less) ms
    ascend : IsAscending mark_cmp ms

  all_further : (m n : Mark) (ms : List Mark) → mark_cmp m n ≡ Less → AllByRecursion (λ o. mark_cmp n o ≡ Less) ms → AllByRecursion (λ o. mark_cmp m o ≡ Less) ms
  all_further m n [] h b = tt
  all_further m n (o ∷ os) h b = (mark_cmp_total.trans m n o h b.0, all_further m n os h b.1)

  marks_after : (t : Part) (us : List Part) → IsPartIn ps t → AllByRecursion (IsPartIn ps) us → IsAscending part_cmp (t ∷ us) → IsAfter t (edge_marks_after ps c t us)
  unfolding edge_marks_after
  marks_after t [] w v b = record { below = tt; ascend = tt }
  marks_after t (u ∷ us) w v b =
      let i = marks_after u us v.0 v.1 b.1 in
      ⊎_elim
      (λ e. subst (λ z. IsAfter t (cond z (edge_marks_after ps c u us) (edge_mark ps c u ∷ edge_marks_after ps c u us))) (sym e) (record { below = subst (λ n. AllByRecursion (λ m. mark_cmp n m ≡ Less) (edge_marks_after ps c u us)) (sym (ends_agree t u e)) i.below; ascend = i.ascend }))
      (λ e.
      let l = edge_below t u w v.0 b.0.0 e in
      subst (λ z. IsAfter t (cond z (edge_marks_after ps c u us) (edge_mark ps c u ∷ edge_marks_after ps c u us))) (sym e) (record { below = (l, all_further (edge_mark ps c t) (edge_mark ps c u) (edge_marks_after ps c u us) l i.below); ascend = (i.below, i.ascend) }))
      (decide (same_ends t u))

  edges_ascend : (ts : List Part) → AllByRecursion (IsPartIn ps) ts → IsAscending part_cmp ts → IsAscending mark_cmp (edge_marks ps c ts)
  unfolding edge_marks
  edges_ascend [] w b = tt
  edges_ascend (t ∷ ts) w b = let i = marks_after t ts w.0 w.1 b in (i.below, i.ascend)

  of_after : (m : Mark) (t : Part) (us : List Part) → Member m (edge_marks_after ps c t us) → (u : Part) × Member u us × (m ≡ edge_mark ps c u)
  unfolding edge_marks_after
  of_after m t [] h = absurd h
  of_after m t (u ∷ us) h = step (λ k. let x = of_after m u us k in (x.0, inr x.1, x.2)) (same_ends t u) h
    where
      step : (Member m (edge_marks_after ps c u us) → (v : Part) × Member v (u ∷ us) × (m ≡ edge_mark ps c v)) → (z : Bool) → Member m (cond z (edge_marks_after ps c u us) (edge_mark ps c u ∷ edge_marks_after ps c u us)) → (v : Part) × Member v (u ∷ us) × (m ≡ edge_mark ps c v)
      step later true k = later k
      step later false (inl e) = (u, inl refl, e)
      step later false (inr k) = later k

  in_after : (v t : Part) (us : List Part) → Member v us → Member (edge_mark ps c v) (edge_mark ps c t ∷ edge_marks_after ps c t us)
  unfolding edge_marks_after
  in_after v t [] h = absurd h
  in_after v t (u ∷ us) h =
      let there : Member (edge_mark ps c v) (edge_mark ps c u ∷ edge_marks_after ps c u us) = ⊎_elim (λ e. inl (ap (edge_mark ps c) e)) (λ k. in_after v u us k) h in
      ⊎_elim
      (λ e. subst (λ z. Member (edge_mark ps c v) (edge_mark ps c t ∷ cond z (edge_marks_after ps c u us) (edge_mark ps c u ∷ edge_marks_after ps c u us))) (sym e) (subst (λ n. Member (edge_mark ps c v) (n ∷ edge_marks_after ps c u us)) (sym (ends_agree t u e)) there))
      (λ e. subst (λ z. Member (edge_mark ps c v) (edge_mark ps c t ∷ cond z (edge_marks_after ps c u us) (edge_mark ps c u ∷ edge_marks_after ps c u us))) (sym e) (inr there))
      (decide (same_ends t u))

  of_edges : (m : Mark) (ts : List Part) → Member m (edge_marks ps c ts) → (u : Part) × Member u ts × (m ≡ edge_mark ps c u)
  unfolding edge_marks
  of_edges m [] h = absurd h
  of_edges m (t ∷ ts) (inl e) = (t, inl refl, e)
  of_edges m (t ∷ ts) (inr k) = let x = of_after m t ts k in (x.0, inr x.1, x.2)

  pub in_edges : (u : Part) (ts : List Part) → Member u ts → Member (edge_mark ps c u) (edge_marks ps c ts)
  unfolding edge_marks
  in_edges u [] h = absurd h
  in_edges u (t ∷ ts) (inl e) = inl (ap (edge_mark ps c) e)
  in_edges u (t ∷ ts) (inr k) = in_after u t ts k

-- ---- the parts in order
module _ (old out : List Part) (is : out ≡ ascending part_cmp old) where
  from_old : (t : Part) → Member t out → Member t old
  from_old t m = of_ascending part_cmp part_total part_exact t old (subst (Member t) is m)

  to_out : (t : Part) → Member t old → Member t out
  to_out t m = subst (Member t) (sym is) (in_ascending part_cmp part_total part_exact t old m)

  pub out_ascends : IsAscending part_cmp out
  out_ascends = subst (IsAscending part_cmp) (sym is) (IsAscending-ascending part_cmp part_total old)

  -- what holds of each part that is found holds of those in order
  pub out_are : (P : Part → Type 0) → ((t : Part) → Member t old → P t) → AllByRecursion P out
  out_are P h = all_members P out (λ t m. h t (from_old t m))

  module _ (ps : List Point) (w : (t : Part) → Member t old → IsPartIn ps t) (a : IsAscending point_cmp ps) (c : ℕ) where
    pub strands_in_order : map (strand_mark ps c) out ≡ ascending mark_cmp (map (strand_mark ps c) old)
    strands_in_order = ascending_unique mark_cmp mark_cmp_total (map (strand_mark ps c) out) (ascending mark_cmp (map (strand_mark ps c) old))
        (strands_ascend ps a c out (out_are (IsPartIn ps) w) out_ascends) (IsAscending-ascending mark_cmp mark_cmp_total (map (strand_mark ps c) old))
        (λ m h.
        let x = of_map (strand_mark ps c) m out h in
        in_ascending mark_cmp mark_cmp_total mark_cmp_exact m (map (strand_mark ps c) old) (subst (λ n. Member n (map (strand_mark ps c) old)) (sym x.2) (in_map (strand_mark ps c) x.0 old (from_old x.0 x.1))))
        (λ m h.
        let x = of_map (strand_mark ps c) m old (of_ascending mark_cmp mark_cmp_total mark_cmp_exact m (map (strand_mark ps c) old) h) in
        subst (λ n. Member n (map (strand_mark ps c) out)) (sym x.2) (in_map (strand_mark ps c) x.0 out (to_out x.0 x.1)))

    pub edges_in_order : edge_marks ps c out ≡ ascending mark_cmp (map (edge_mark ps c) old)
    edges_in_order = ascending_unique mark_cmp mark_cmp_total (edge_marks ps c out) (ascending mark_cmp (map (edge_mark ps c) old))
        (edges_ascend ps a c out (out_are (IsPartIn ps) w) out_ascends) (IsAscending-ascending mark_cmp mark_cmp_total (map (edge_mark ps c) old))
        (λ m h.
        let x = of_edges ps a c m out h in
        in_ascending mark_cmp mark_cmp_total mark_cmp_exact m (map (edge_mark ps c) old) (subst (λ n. Member n (map (edge_mark ps c) old)) (sym x.2) (in_map (edge_mark ps c) x.0 old (from_old x.0 x.1))))
        (λ m h.
        let x = of_map (edge_mark ps c) m old (of_ascending mark_cmp mark_cmp_total mark_cmp_exact m (map (edge_mark ps c) old) h) in
        subst (λ n. Member n (edge_marks ps c out)) (sym x.2) (in_edges ps a c x.0 out (to_out x.0 x.1)))
