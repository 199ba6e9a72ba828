-- Edges that are looked up by their places; lists of places.
use Rattle.std.proofs.Common.{◌≡◌, ℕ, zero, suc, ◌<◌, ◌≤◌, ◌+◌, Bool, false, refl, sym, ap, ◌∙◌, subst, arith, inl, inr, List, [], ◌∷◌, ◌++◌, length, get_or, Less, nat_cmp, ◌&&◌}
use Rattle.std.specs.Prelude.{◌↔◌, slice_get, Option, Some, None}
use Rattle.std.specs.Ordering.{int_eq}
use Rattle.std.proofs.lemmas.Int.{ints}
use Rattle.exact_plane.specs.Point.{Point, IsPoint}
use Rattle.exact_plane.specs.PointOrderLaws.{point_cmp_ties}
use Rattle.plane_graphs.specs.Ascending.{Member, IsAscending}
use Rattle.plane_graphs.specs.Line.{same_point}
use Rattle.plane_graphs.proofs.Lists.{in_left, in_right, in_either}
use Rattle.plane_graphs.proofs.Order.{same_out}
use Rattle.std.proofs.lemmas.Bool.{cases_lt, false_from_ne_true}
use Rattle.plane_graphs.proofs.Sorting.{any_default}
use Rattle.slab_laws.specs.Skeleton.{side, under}
use Rattle.slab_laws.specs.SpansDrawn.{edge_of}
use Rattle.slab_faces.proofs.OverUnder.{weak_under}
use Rattle.sweep_status.proofs.Parts.{append_ascends}
use Rattle.edge_sweep.specs.declared.edges.SweptEdge.{SweptEdge}
use Rattle.edge_sweep.specs.Swept.{no_edge, is_below, ends_at}

-- what is looked up is what stands there
pub looked_up : (ks : List SweptEdge) (i : ℕ) (k : SweptEdge) → i < length ks → get_or ks i k ≡ k → get_or ks i no_edge ≡ k
looked_up ks i k h e = any_default ks i no_edge k h ∙ e

pub beyond_list : {X : Type 0} (xs : List X) (i : ℕ) (d : X) → length xs ≤ i → get_or xs i d ≡ d
beyond_list [] i d h = refl
beyond_list (x ∷ xs) zero d h = absurd (omega (arith, h))
beyond_list (x ∷ xs) (suc i) d h = beyond_list xs i d (omega (arith, h))

-- no edge passes below anything
no_side : (q : Point) → under (edge_of no_edge.span) q ≡ false
unfolding side
no_side q = weak_under (edge_of no_edge.span) q (omega (arith, ints))

pub none_below : (ks : List SweptEdge) (i : ℕ) (q : Point) → length ks ≤ i → false ≡ is_below ks q i
none_below ks i q h = sym (ap (λ (k : SweptEdge). under (edge_of k.span) q) (beyond_list ks i no_edge h) ∙ no_side q)

-- a list with one more place at its end
pub one_more : (from i : ℕ) (xs ys : List ℕ) → from ≤ i → ((j : ℕ) → Member j xs ↔ ((from ≤ j) × (j < i))) → ys ≡ xs ++ i ∷ [] → (j : ℕ) → Member j ys ↔ ((from ≤ j) × (j < i + 1))
one_more from i xs ys l h e j = subst (λ zs. Member j zs ↔ ((from ≤ j) × (j < i + 1))) (sym e) (out, back)
  where
    out : Member j (xs ++ i ∷ []) → (from ≤ j) × (j < i + 1)
    out m = elim (in_either j xs (i ∷ []) m) [
      | inl a ↦ (let b = (h j).0 a in let x = b.0 in let y = b.1 in (x, omega (arith, y)))
      | inr a ↦ elim a [ inl f ↦ (omega (arith, l, f), omega (arith, f)) | inr z ↦ absurd z ]
    ]

    back : (from ≤ j) × (j < i + 1) → Member j (xs ++ i ∷ [])
    back m =
        let x = m.0 in
        let y = m.1 in
        elim (cases_lt j i) [
          | inl a ↦ in_left j xs (i ∷ []) ((h j).1 (x, a))
          | inr a ↦ in_right j xs (i ∷ []) (inl (omega (arith, a, y)))
        ]

pub one_more_ascends : (from i : ℕ) (xs ys : List ℕ) → ((j : ℕ) → Member j xs ↔ ((from ≤ j) × (j < i))) → IsAscending nat_cmp xs → ys ≡ xs ++ i ∷ [] → IsAscending nat_cmp ys
one_more_ascends from i xs ys h a e = subst (IsAscending nat_cmp) (sym e) (append_ascends nat_cmp xs (i ∷ []) a (tt, tt) (λ x y m n. elim n [ inl f ↦ (let b = (h x).0 m in let l = b.1 in less x y (omega (arith, l, f))) | inr z ↦ absurd z ]))
  where
    less : (x y : ℕ) → x < y → nat_cmp x y ≡ Less
    less x y h = grind arith

-- an edge that was looked up ends at q
pub told_ended : (ks : List SweptEdge) (i : ℕ) (k : SweptEdge) (u q : Point) (b : Bool) → i < length ks → get_or ks i k ≡ k → u ≡ k.span.upper → b ≡ (int_eq u.x q.x && (int_eq u.y q.y && int_eq u.w q.w)) → b ≡ ends_at ks q i
told_ended ks i k u q b h e f g =
    let same : (get_or ks i no_edge).span.upper ≡ u = ap (λ (t : SweptEdge). t.span.upper) (looked_up ks i k h e) ∙ sym f in
    g ∙ point_cmp_ties u q ∙ ap (λ (p : Point). same_point p q) (sym same)

-- no place yet
pub record AreBetween (from to : ℕ) (xs : List ℕ) : Type 0 where
  pub members : (i : ℕ) → Member i xs ↔ ((from ≤ i) × (i < to))
  pub ascend : IsAscending nat_cmp xs

pub no_places : (from : ℕ) (xs : List ℕ) → xs ≡ [] → AreBetween from from xs
no_places from xs e = record {
  members = λ i. subst (λ zs. Member i zs ↔ ((from ≤ i) × (i < from))) (sym e) ((λ m. absurd m), (λ h. let x = h.0 in let y = h.1 in absurd (omega (arith, x, y))));
  ascend = subst (IsAscending nat_cmp) (sym e) tt;
}

-- nothing ends at a point
pub none_ended : (ks : List SweptEdge) (i : ℕ) (q : Point) → IsPoint q → length ks ≤ i → false ≡ ends_at ks q i
none_ended ks i q Q h =
    sym (ap (λ (k : SweptEdge). same_point (edge_of k.span).high q) (beyond_list ks i no_edge h)
    ∙ false_from_ne_true _ (λ t. let e = ap (λ (p : Point). p.w) (same_out (edge_of no_edge.span).high q t) in let w = Q.range.positive in omega (arith, ints, e, w)))

-- ---- what is read at a place
pub got : {X : Type 0} (xs : List X) (k : ℕ) (x : X) → slice_get xs k ≡ Some x → (k < length xs) × ((d : X) → get_or xs k d ≡ x)
got [] k x e = absurd cc
got (y ∷ ys) zero x e = (omega arith, λ d. ap (λ o. unwrap y o) e)
  where
    unwrap : {X : Type 0} → X → Option X → X
    unwrap d None = d
    unwrap d (Some z) = z
got (y ∷ ys) (suc k) x e = let r = got ys k x e in let l = r.0 in (omega (arith, l), r.1)

pub got_none : {X : Type 0} (xs : List X) (k : ℕ) → slice_get xs k ≡ None → length xs ≤ k
got_none [] k e = omega arith
got_none (y ∷ ys) zero e = absurd cc
got_none (y ∷ ys) (suc k) e = let r = got_none ys k e in omega (arith, r)

pub gives : {X : Type 0} (xs : List X) (k : ℕ) (d : X) → k < length xs → slice_get xs k ≡ Some (get_or xs k d)
gives [] k d h = absurd (omega (arith, h))
gives (y ∷ ys) zero d h = refl
gives (y ∷ ys) (suc k) d h = gives ys k d (omega (arith, h))
