-- Sums over numbers that stand once each: two lists of the same numbers have one sum.
use Rattle.std.proofs.Common.{◌≡◌, ℕ, ◌+◌, ◌<◌, ◌*◌, Bool, true, false, cond, arith, refl, sym, ap, ◌∙◌, subst, inl, inr, List, [], ◌∷◌, map}
use Rattle.std.specs.Prelude.{◌==◌}
use Rattle.std.specs.List.{count_by, filter, sum_by}
use Rattle.std.proofs.lemmas.Bool.{eq-eqb, eqb-true, ne_eqb, false≢true}
use Rattle.std.proofs.lemmas.List.Sums.{sum_by-cons}
use Rattle.plane_graphs.specs.Ascending.{Member}
use Rattle.plane_graphs.proofs.Ascending.{All-member, to_member}
use Rattle.plane_graphs.proofs.Lists.{of_filter, of_map}
use Rattle.slab_laws.specs.declared.names.DartId.{DartId}
use Rattle.slab_laws.specs.FaceLists.{AreOnce}
use Rattle.slab_laws.specs.Tables.{NamesAscend}
use Rattle.slab_laws.specs.View.{dart_id}
use Rattle.slab_faces.proofs.EveryFace.{none_counted}
use Rattle.slab_faces.proofs.Sums.{each, sum_by-cond, sum_by-same, sum_by-swap}

-- ---- what stands once
pub once_names : (ns : List ℕ) → NamesAscend ns → AreOnce ns
once_names [] a = tt
once_names (n ∷ ns) a = (λ m. (let l = All-member (λ k. n < k) n ns a.0 m in absurd (omega arith)), once_names ns a.1)

once_kept : (t : Bool) (x : ℕ) (ys : List ℕ) → (Member x ys → ⊥) → AreOnce ys → AreOnce (cond t (x ∷ ys) ys)
once_kept true x ys n o = (n, o)
once_kept false x ys n o = o

pub once_filter : (t : ℕ → Bool) (xs : List ℕ) → AreOnce xs → AreOnce (filter t xs)
once_filter t [] o = tt
once_filter t (x ∷ xs) o = once_kept (t x) x (filter t xs) (λ m. o.0 (of_filter t x xs m).0) (once_filter t xs o.1)

pub numbers_once : (ds : List DartId) → AreOnce ds → AreOnce (map (λ (d : DartId). d.0) ds)
numbers_once [] o = tt
numbers_once (d ∷ ds) o = (
  λ m. (let w = of_map (λ (d : DartId). d.0) d.0 ds m in o.0 (subst (λ z. Member z ds) (sym (ap dart_id w.2)) w.1)),
  numbers_once ds o.1,
)

-- ---- sums
counted_once : (x : ℕ) (xs : List ℕ) → AreOnce xs → Member x xs → count_by (λ y. y == x) xs ≡ 1
counted_once x [] o m = absurd m
counted_once x (y ∷ ys) o (inl e) =
    let first : cond {A = ℕ} (y == x) 1 0 ≡ 1 = ap (λ b. cond {A = ℕ} b 1 0) (eq-eqb y x (sym e)) in
    let rest = none_counted (λ z. z == x) ys (λ z Z. ne_eqb z x (λ q. o.0 (subst (λ n. Member n ys) (q ∙ e) (to_member ys z Z)))) in
    let c = sum_by-cons (λ z. cond {A = ℕ} (z == x) 1 0) y ys in
    omega arith
counted_once x (y ∷ ys) o (inr m) =
    let first : cond {A = ℕ} (y == x) 1 0 ≡ 0 = ap (λ b. cond {A = ℕ} b 1 0) (ne_eqb y x (λ q. o.0 (subst (λ n. Member n ys) (sym q) m))) in
    let rest = counted_once x ys o.1 m in
    let c = sum_by-cons (λ z. cond {A = ℕ} (z == x) 1 0) y ys in
    omega arith

module _ (f : ℕ → ℕ) where
  pub sum_filtered : (t : ℕ → Bool) (xs : List ℕ) → sum_by f (filter t xs) ≡ sum_by (λ x. cond (t x) (f x) 0) xs
  sum_filtered t [] = refl
  sum_filtered t (x ∷ xs) = kept (t x) ∙ ap (λ n. cond (t x) (f x) 0 + n) (sum_filtered t xs) ∙ sym (sum_by-cons (λ x. cond (t x) (f x) 0) x xs)
    where
      kept : (b : Bool) → sum_by f (cond b (x ∷ filter t xs) (filter t xs)) ≡ cond b (f x) 0 + sum_by f (filter t xs)
      kept true = sum_by-cons f x (filter t xs)
      kept false = omega arith

  -- of all numbers that stand once only the one counts
  one_summed : (x : ℕ) (xs : List ℕ) → AreOnce xs → Member x xs → sum_by (λ y. cond (y == x) (f x) 0) xs ≡ f x
  one_summed x xs o m = sum_by-cond (λ y. y == x) (f x) xs ∙ ap (λ n. n * f x) (counted_once x xs o m) ∙ omega arith

  turned : (x y : ℕ) (b : Bool) → (y == x) ≡ b → cond b (f x) 0 ≡ cond (x == y) (f y) 0
  turned x y true e = let q = eqb-true y x e in ap f (sym q) ∙ sym (ap (λ b. cond b (f y) 0) (eq-eqb x y (sym q)))
  turned x y false e = sym (ap (λ b. cond b (f y) 0) (ne_eqb x y (λ q. false≢true (sym e ∙ eq-eqb y x (sym q)))))

  pub sums_alike : (xs ys : List ℕ) → AreOnce xs → AreOnce ys → ((x : ℕ) → Member x xs → Member x ys) → ((y : ℕ) → Member y ys → Member y xs) → sum_by f xs ≡ sum_by f ys
  sums_alike xs ys ox oy into back =
      sym (sum_by-same (λ x. sum_by (λ y. cond (y == x) (f x) 0) ys) f xs (each (λ x. sum_by (λ y. cond (y == x) (f x) 0) ys ≡ f x) xs (λ x X. one_summed x ys oy (into x (to_member xs x X)))))
      ∙ sum_by-swap (λ x y. cond (y == x) (f x) 0) xs ys
      ∙ sum_by-same (λ y. sum_by (λ x. cond (y == x) (f x) 0) xs) f ys (each (λ y. sum_by (λ x. cond (y == x) (f x) 0) xs ≡ f y) ys (λ y Y.
      sum_by-same (λ x. cond (y == x) (f x) 0) (λ x. cond (x == y) (f y) 0) xs (each (λ x. cond (y == x) (f x) 0 ≡ cond (x == y) (f y) 0) xs (λ x X. turned x y (y == x) refl))
      ∙ one_summed y xs ox (back y (to_member ys y Y))))
