-- Names, and rows of a table by them.
use Rattle.std.proofs.Common.{◌≡◌, ℕ, ◌<◌, Bool, true, false, cond, arith, refl, sym, ap, inl, inr, List, [], ◌∷◌, Some}
use Rattle.std.specs.Prelude.{IsSome, ◌==◌}
use Rattle.std.proofs.lemmas.Bool.{false≢true, eq-eqb, eqb-true}
use Rattle.std.proofs.lemmas.Bool.Decides.{nat_tests}
use Rattle.plane_graphs.specs.Ascending.{Member}
use Rattle.plane_graphs.proofs.Ascending.{All-member}
use Rattle.plane_graphs.proofs.Lists.{in_map}
use Rattle.slab_laws.specs.Tables.{row_at, names, NamesAscend}
use Rattle.slab_faces.proofs.ClassesLemmas.{IsExact}
use Rattle.arr_notes.specs.CycleNames.{same_name}

-- the test of names tells them apart
pub names_exact : IsExact same_name
names_exact = record { itself = λ d. eq-eqb d.0 d.0 refl; path = λ d e h. let q = eqb-true d.0 e.0 h in λ i. record { 0 = q i } }

pub other_number : (i n : ℕ) → i < n → (i == n) ≡ false
other_number i n h = grind (arith, nat_tests)

module _ {X : Type 0} where
  -- a name with a row is one of the names
  pub has_name : (rs : List (ℕ × X)) (n : ℕ) → IsSome (row_at rs n) → Member n (names rs)
  unfolding row_at
  has_name [] n h = absurd (false≢true h)
  has_name (r ∷ rs) n h = step (r.0 == n) refl h (has_name rs n)
    where
      step : (b : Bool) → (r.0 == n) ≡ b → IsSome (cond b (Some r.1) (row_at rs n)) → (IsSome (row_at rs n) → Member n (names rs)) → Member n (names (r ∷ rs))
      step true e h f = inl (sym (eqb-true r.0 n e))
      step false e h f = inr (f h)

  -- and the names have rows
  pub name_has : (rs : List (ℕ × X)) (n : ℕ) → Member n (names rs) → IsSome (row_at rs n)
  unfolding row_at
  name_has [] n m = absurd m
  name_has (r ∷ rs) n (inl e) = let q : (r.0 == n) ≡ true = eq-eqb r.0 n (sym e) in rw q refl
  name_has (r ∷ rs) n (inr m) = step (r.0 == n) (name_has rs n m)
    where
      step : (b : Bool) → IsSome (row_at rs n) → IsSome (cond b (Some r.1) (row_at rs n))
      step true k = refl
      step false k = k

  -- where names ascend, each row is the one that its name finds
  pub row_found : (rs : List (ℕ × X)) (r : ℕ × X) → NamesAscend (names rs) → Member r rs → row_at rs r.0 ≡ Some r.1
  unfolding row_at
  row_found [] r a m = absurd m
  row_found (s ∷ rs) r a (inl e) = let q : (s.0 == r.0) ≡ true = eq-eqb s.0 r.0 (ap (λ t. t.0) (sym e)) in rw q (ap (λ t. Some t.1) (sym e))
  row_found (s ∷ rs) r a (inr m) =
      let q : (s.0 == r.0) ≡ false = other_number s.0 r.0 (All-member (λ n. s.0 < n) r.0 (names rs) a.0 (in_map (λ t. t.0) r rs m)) in
      rw q (row_found rs r a.1 m)
