-- Two lists of edges have as many elements that pass, where each that passes in one list has exactly one partner in the other.
use Rattle.std.proofs.Common.{◌≡◌, ℕ, Bool, true, false, cond, refl, sym, ap, ◌∙◌, subst, List}
use Rattle.std.specs.Prelude.{◌&&◌}
use Rattle.std.specs.List.{Contains, count_by, sum_by}
use Rattle.plane_graphs.specs.Graph.{Edge}
use Rattle.plane_graphs.proofs.Lists.{both_ways}
use Rattle.slab_laws.specs.Skeleton.{same_edge}
use Rattle.slab_faces.proofs.Sums.{each, sum_by-same, sum_by-none, sum_by-swap}
use Rattle.slab_faces.proofs.Slabs.{same_edge_is, same_edge_refl}

-- the one edge of the list that passes
pub record IsOnly (t : Edge → Bool) (xs : List Edge) : Type 0 where
  pub edge : Edge
  pub there : Contains xs edge
  pub passes : t edge ≡ true
  pub only : (e : Edge) → Contains xs e → t e ≡ true → edge ≡ e

-- a test that no edge passes, or just one
pub only_counted : (t : Edge → Bool) (xs : List Edge) → ((e : Edge) → Contains xs e → count_by (same_edge e) xs ≡ 1) → IsOnly t xs → count_by t xs ≡ 1
only_counted t xs once w =
    sum_by-same (λ e. cond (t e) 1 0) (λ e. cond (same_edge w.edge e) 1 0) xs (each (λ e. cond {A = ℕ} (t e) 1 0 ≡ cond (same_edge w.edge e) 1 0) xs (λ e E. ap (λ b. cond {A = ℕ} b 1 0) (both_ways (t e) (same_edge w.edge e)
    (λ h. subst (λ z. same_edge w.edge z ≡ true) (w.only e E h) (same_edge_refl w.edge))
    (λ h. subst (λ z. t z ≡ true) (same_edge_is w.edge e h) w.passes))))
    ∙ once w.edge w.there

none_by : (p : Bool) (t : Edge → Bool) (e : Edge) → p ≡ false → cond {A = ℕ} (p && t e) 1 0 ≡ 0
none_by p t e h = ap (λ b. cond {A = ℕ} (b && t e) 1 0) h

counted_if : (p : Bool) (t : Edge → Bool) (xs : List Edge) → ((e : Edge) → Contains xs e → count_by (same_edge e) xs ≡ 1) → (p ≡ true → IsOnly t xs) → count_by (λ e. p && t e) xs ≡ cond p 1 0
counted_if true t xs once f = only_counted t xs once (f refl)
counted_if false t xs once f = sum_by-none xs

turned : (p q r : Bool) → (p && (q && r)) ≡ (q && (p && r))
turned true q r = refl
turned false true r = refl
turned false false r = refl

pub pairs_count : (p q : Edge → Bool) (pair : Edge → Edge → Bool) (xs ys : List Edge) → ((e : Edge) → Contains xs e → count_by (same_edge e) xs ≡ 1) → ((e : Edge) → Contains ys e → count_by (same_edge e) ys ≡ 1) → ((x : Edge) → Contains xs x → p x ≡ true → IsOnly (λ y. q y && pair x y) ys) → ((y : Edge) → Contains ys y → q y ≡ true → IsOnly (λ x. p x && pair x y) xs) → count_by p xs ≡ count_by q ys
pairs_count p q pair xs ys onex oney f g =
    let both : Edge → Edge → ℕ = λ x y. cond (p x && (q y && pair x y)) 1 0 in
    let a : sum_by (λ x. sum_by (both x) ys) xs ≡ count_by p xs =
    sum_by-same (λ x. sum_by (both x) ys) (λ x. cond (p x) 1 0) xs (each (λ x. sum_by (both x) ys ≡ cond (p x) 1 0) xs (λ x X. counted_if (p x) (λ y. q y && pair x y) ys oney (f x X))) in
    let b : sum_by (λ y. sum_by (λ x. both x y) xs) ys ≡ count_by q ys =
    sum_by-same (λ y. sum_by (λ x. both x y) xs) (λ y. cond (q y) 1 0) ys (each (λ y. sum_by (λ x. both x y) xs ≡ cond (q y) 1 0) ys (λ y Y.
    sum_by-same (λ x. both x y) (λ x. cond (q y && (p x && pair x y)) 1 0) xs (each (λ x. both x y ≡ cond (q y && (p x && pair x y)) 1 0) xs (λ x X. ap (λ b. cond {A = ℕ} b 1 0) (turned (p x) (q y) (pair x y))))
    ∙ counted_if (q y) (λ x. p x && pair x y) xs onex (g y Y))) in
    sym a ∙ sum_by-swap both xs ys ∙ b
