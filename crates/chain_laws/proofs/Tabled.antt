-- A slab as a table by its keys.
use Rattle.std.proofs.Common.{◌≡◌, inl, inr, ℕ, zero, suc, ◌+◌, ◌<◌, ◌≤◌, List, [], ◌∷◌, map, length, get_or, Option, Some, None, is_some, IsSome, option_map, refl, ap, subst, arith, add-zero, zero-add, Contains}
use Rattle.std.specs.List.{AllByRecursion}
use Rattle.std.proofs.Math.ListN.{length-map}
use Rattle.slab.specs.Slab.{Slab, get, entries, entries_from, slab_len, ContainsKey}
use Rattle.slab.proofs.SlabLemmas.{Contains-entries, Contains-cons_cases, length-entries}
use Rattle.slab_laws.specs.Tables.{row_at, names, NamesAscend}
use Rattle.chain_laws.specs.Links.{Node, IsListed}
use Rattle.chain_laws.specs.Rows.{tabled}
use Rattle.chain_laws.proofs.Changes.{key_some}
use Rattle.chain_laws.proofs.Distinct.{here, there, once_from_distinct, no_more}
use Rattle.integers.proofs.Tests.{other_number, same_number}

module _ {X Y : Type 0} (f : X → Y) where
  abbrev from : ℕ → List (Option X) → List (ℕ × Y)
  from k os = map (λ e. (e.0, f e.1)) (entries_from k os)

  above-from : (i k : ℕ) (os : List (Option X)) → i < k → AllByRecursion (λ m. i < m) (names (from k os))
  above-from i k [] l = tt
  above-from i k (None ∷ os) l = above-from i (k + 1) os (omega arith)
  above-from i k (Some x ∷ os) l = (l, above-from i (k + 1) os (omega arith))

  ascend-from : (k : ℕ) (os : List (Option X)) → NamesAscend (names (from k os))
  ascend-from k [] = tt
  ascend-from k (None ∷ os) = ascend-from (k + 1) os
  ascend-from k (Some x ∷ os) = (above-from k (k + 1) os (omega arith), ascend-from (k + 1) os)

  absent_from : (i k : ℕ) (os : List (Option X)) → i < k → row_at (from k os) i ≡ None
  unfolding row_at
  absent_from i k [] l = refl
  absent_from i k (None ∷ os) l = absent_from i (k + 1) os (omega arith)
  absent_from i k (Some x ∷ os) l = rw (other_number k i (omega arith)) (absent_from i (k + 1) os (omega arith))

  from_slot : (k : ℕ) (os : List (Option X)) (j : ℕ) → row_at (from k os) (k + j) ≡ option_map f (get_or os j None)
  unfolding row_at
  from_slot k [] j = refl
  from_slot k (None ∷ os) zero = rw add-zero (absent_from k (k + 1) os (omega arith))
  from_slot k (Some x ∷ os) zero = rw (add-zero, same_number k) refl
  from_slot k (None ∷ os) (suc j) = let e : k + suc j ≡ (k + 1) + j = omega arith in rw e (from_slot (k + 1) os j)
  from_slot k (Some x ∷ os) (suc j) = rw (other_number k (k + suc j) (omega arith)) (let e : k + suc j ≡ (k + 1) + j = omega arith in rw e (from_slot (k + 1) os j))

  -- a key finds what the slab has there
  pub row-tabled : (s : Slab X) (j : ℕ) → row_at (tabled f s) j ≡ option_map f (get s j)
  unfolding tabled
  row-tabled s j = let h = from_slot 0 s.slots j in rw zero-add at h

  pub ascend-tabled : (s : Slab X) → NamesAscend (names (tabled f s))
  unfolding tabled
  ascend-tabled s = ascend-from 0 s.slots

  pub tabled_slots : (s t : Slab X) → t.slots ≡ s.slots → tabled f t ≡ tabled f s
  unfolding tabled
  tabled_slots s t e = ap (from 0) e

  pub tabled_empty : (s : Slab X) → s.slots ≡ [] → tabled f s ≡ []
  unfolding tabled
  tabled_empty s e = ap (from 0) e

  pub length-tabled : (s : Slab X) → length (tabled f s) ≡ slab_len s
  unfolding tabled
  length-tabled s = simp length-map (length-entries s)

-- ---- the keys
module _ {X : Type 0} where
  named : (es : List (ℕ × X)) (n : ℕ) (x : X) → Contains es (n, x) → Contains (names es) n
  named [] n x c = absurd (omega (arith, c.1))
  named (e ∷ es) n x c = elim (Contains-cons_cases e (n, x) es c) [
    | inl q ↦ subst (λ z. Contains (e.0 ∷ names es) z) (ap (λ r. r.0) q) (here e.0 (names es))
    | inr d ↦ there e.0 n (names es) (named es n x d)
  ]

  pub key_named : (s : Slab X) (n : ℕ) → ContainsKey s n → Contains (names (entries s)) n
  key_named s n h = by (get s n) refl h
    where
      by : (o : Option X) → get s n ≡ o → IsSome o → Contains (names (entries s)) n
      by None e h = absurd (cc)
      by (Some x) e h = named (entries s) n x ((Contains-entries s n x).1 e)

  -- no list of nodes is longer than the slab that has their rows
  pub listed_within : (s : Slab X) (node : ℕ → Option Node) → ((n : ℕ) → IsSome (node n) → ContainsKey s n) → (first : Option ℕ) (k : ℕ) (xs : List ℕ) → IsListed node first k xs → length xs ≤ slab_len s
  listed_within s node row first k xs l =
      let most : length xs ≤ length (names (entries s)) = no_more xs (names (entries s)) (once_from_distinct xs l.once) (λ n c. let x = key_some node n k ((l.members n).0 c) in key_named s n (row n (ap is_some x.1))) in
      let a : length (names (entries s)) ≡ length (entries s) = length-map (entries s) _ in
      omega (arith, most, a, length-entries s)
