-- The first entry of a range is that of the next name.
use Rattle.std.proofs.Common.{◌≡◌, ℕ, Bool, true, false, cond, ◌&&◌, List, [], ◌∷◌, Option, Some, None, option_map, filter, nat_cmp, is_lt, refl, sym, ap, ◌∙◌, arith}
use Rattle.std.specs.Prelude.{nat_lt}
use Rattle.std.specs.BTreeMap.Range.{range_contains, entries_between}
use Rattle.std.specs.declared.ops.Bound.TheVariants.{Unbounded}
use Rattle.std.proofs.lemmas.Bool.Decides.{nat_tests}
use Rattle.slab_laws.specs.FaceLists.{first_of}
use Rattle.slab_laws.specs.Tables.{names, name_after, is_after}
use Rattle.mirror_observer.specs.Reading.{start_after}

and_true : (b : Bool) → b && true ≡ b
and_true true = refl
and_true false = refl

less_test : (m n : ℕ) → is_lt (nat_cmp m n) ≡ nat_lt m n
less_test m n = grind (arith, nat_tests)

in_range : (at : Option ℕ) (n : ℕ) → range_contains nat_cmp (start_after at) Unbounded n ≡ is_after at n
in_range None n = refl
in_range (Some m) n = and_true (is_lt (nat_cmp m n)) ∙ less_test m n

module _ {X : Type 0} (at : Option ℕ) where
  name_first : (es : List (ℕ × X)) → option_map (λ e. e.0) (first_of (entries_between nat_cmp (start_after at) Unbounded es)) ≡ name_after (names es) at
  unfolding name_after
  name_first [] = refl
  name_first (e ∷ es) =
      ap (λ b. option_map (λ x. x.0) (first_of (cond b (e ∷ entries_between nat_cmp (start_after at) Unbounded es) (entries_between nat_cmp (start_after at) Unbounded es)))) (in_range at e.0)
      ∙ elim (is_after at e.0) as (λ b. option_map (λ x. x.0) (first_of (cond b (e ∷ entries_between nat_cmp (start_after at) Unbounded es) (entries_between nat_cmp (start_after at) Unbounded es))) ≡ cond b (Some e.0) (name_after (names es) at)) [
        | true ↦ refl
        | false ↦ name_first es
      ]

  pub name_found : (es : List (ℕ × X)) (e : ℕ × X) (rest : List (ℕ × X)) → entries_between nat_cmp (start_after at) Unbounded es ≡ e ∷ rest → Some e.0 ≡ name_after (names es) at
  name_found es e rest q = ap (λ ys. option_map (λ x. x.0) (first_of ys)) (sym q) ∙ name_first es

  pub name_none : (es : List (ℕ × X)) → entries_between nat_cmp (start_after at) Unbounded es ≡ [] → None ≡ name_after (names es) at
  name_none es q = ap (λ ys. option_map (λ x. x.0) (first_of ys)) (sym q) ∙ name_first es

-- ---- names alone
module _ (at : Option ℕ) where
  key_first : (ks : List ℕ) → first_of (filter (range_contains nat_cmp (start_after at) Unbounded) ks) ≡ name_after ks at
  unfolding name_after
  key_first [] = refl
  key_first (k ∷ ks) =
      ap (λ b. first_of (cond b (k ∷ filter (range_contains nat_cmp (start_after at) Unbounded) ks) (filter (range_contains nat_cmp (start_after at) Unbounded) ks))) (in_range at k)
      ∙ elim (is_after at k) as (λ b. first_of (cond b (k ∷ filter (range_contains nat_cmp (start_after at) Unbounded) ks) (filter (range_contains nat_cmp (start_after at) Unbounded) ks)) ≡ cond b (Some k) (name_after ks at)) [
        | true ↦ refl
        | false ↦ key_first ks
      ]

  pub key_found : (ks : List ℕ) (k : ℕ) (rest : List ℕ) → filter (range_contains nat_cmp (start_after at) Unbounded) ks ≡ k ∷ rest → Some k ≡ name_after ks at
  key_found ks k rest q = ap first_of (sym q) ∙ key_first ks

  pub key_none : (ks : List ℕ) → filter (range_contains nat_cmp (start_after at) Unbounded) ks ≡ [] → None ≡ name_after ks at
  key_none ks q = ap first_of (sym q) ∙ key_first ks
