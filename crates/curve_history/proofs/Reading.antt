-- What is read of chains, and what their nodes say along an edge.
use Rattle.std.proofs.Common.{◌≡◌, ◌≢◌, ◌⊎◌, inl, inr, ℕ, ◌==◌, true, List, [], ◌∷◌, map, Option, Some, None, option_map, IsSome, is_some, refl, sym, ap, ap₂, subst, ◌∙◌}
use Rattle.std.specs.List.{filter}
use Rattle.std.specs.Ordering.{nat_cmp}
use Rattle.std.proofs.lemmas.Bool.{cases_eq, eqb-true, eq-eqb, false≢true}
use Rattle.std.proofs.lemmas.Cmp.{nat_cmp_total}
use Rattle.plane_graphs.specs.Ascending.{ascending, Member, IsAscending}
use Rattle.plane_graphs.proofs.Ascending.{IsAscending-ascending, ascending_unique}
use Rattle.plane_graphs.proofs.Lists.{in_filter, of_filter, in_map, of_map}
use Rattle.plane_graphs.proofs.Lists as lists
use Rattle.slab_laws.specs.declared.names.DartId.{DartId}
use Rattle.slab_laws.specs.Tables.{row_at, names}
use Rattle.linked_chains.specs.Chains.{Chained, Link, HasNode, entry_at}
use Rattle.linked_chains.specs.declared.node.Entry.{Entry}
use Rattle.curve_history.specs.Past.{Past, strands_on}
use Rattle.curve_history.specs.HistoryInMemory.{entry, Says, pair_or, pairs_in}
use Rattle.integers.proofs.Tests.{nat_exact, other_number, same_number}

-- ---- rows and names
module _ {X : Type 0} where
  pub of_row : (rs : List (ℕ × X)) (n : ℕ) → IsSome (row_at rs n) → Member n (names rs)
  unfolding row_at
  of_row [] n h = absurd (false≢true h)
  of_row (r ∷ rs) n h = elim (cases_eq r.0 n) [
    | inl e ↦ inl (sym e)
    | inr ne ↦ inr (of_row rs n (rw (other_number r.0 n ne) at h))
  ]

  pub row_of : (rs : List (ℕ × X)) (n : ℕ) → Member n (names rs) → IsSome (row_at rs n)
  unfolding row_at
  row_of [] n m = absurd m
  row_of (r ∷ rs) n m = elim (cases_eq r.0 n) [
    | inl e ↦ rw (eq-eqb r.0 n e) refl
    | inr ne ↦ rw (other_number r.0 n ne) (row_of rs n (later m ne))
  ]
    where
      later : (n ≡ r.0) ⊎ Member n (names rs) → r.0 ≢ n → Member n (names rs)
      later (inl e) ne = absurd (ne (sym e))
      later (inr m) ne = m

-- ---- entries
some_entry : (o : Option Link) → is_some o ≡ true → (e : Entry) × (option_map (λ l. l.entry) o ≡ Some e)
some_entry None h = absurd (false≢true h)
some_entry (Some l) h = (l.entry, refl)

pub entry_of : (c : Chained) (n : ℕ) → HasNode c n → (e : Entry) × (entry_at c n ≡ Some e)
entry_of c n h = some_entry (row_at c.nodes n) h

some_link : (o : Option Link) (e : Entry) → option_map (λ l. l.entry) o ≡ Some e → is_some o ≡ true
some_link None e h = absurd cc
some_link (Some l) e h = refl

pub node_of : (c : Chained) (n : ℕ) (e : Entry) → entry_at c n ≡ Some e → HasNode c n
node_of c n e h = some_link (row_at c.nodes n) e h

-- ---- what nodes say
-- what is said along a key
pub along : Chained → ℕ → List ℕ
along c k = map (λ e. e.1) (filter (λ e. e.0 == k) (pairs_in c))

pub in_along : (c : Chained) (k i : ℕ) → Says c k i → Member i (along c k)
unfolding along
in_along c k i s =
    let named : Member s.node (names c.nodes) = of_row c.nodes s.node (node_of c s.node (entry k i s.twin) s.is) in
    let said : pair_or (entry_at c s.node) ≡ (k, i) = ap pair_or s.is in
    let pair : Member (k, i) (pairs_in c) = subst (λ (p : ℕ × ℕ). Member p (pairs_in c)) said (in_map (λ n. pair_or (entry_at c n)) s.node (names c.nodes) named) in
    in_map (λ (e : ℕ × ℕ). e.1) (k, i) (filter (λ e. e.0 == k) (pairs_in c)) (in_filter (λ (e : ℕ × ℕ). e.0 == k) (k, i) (pairs_in c) pair (same_number k))

says_at : (c : Chained) (n k i : ℕ) (o : Option Entry) → entry_at c n ≡ o → is_some o ≡ true → (pair_or o).0 ≡ k → (pair_or o).1 ≡ i → Says c k i
says_at c n k i None h s p q = absurd (false≢true s)
says_at c n k i (Some e) h s p q = record { node = n; twin = e.twin; is = h ∙ ap Some (ap₂ (λ a b. entry a b e.twin) p q) }

is_entry : (c : Chained) (n : ℕ) → HasNode c n → is_some (entry_at c n) ≡ true
is_entry c n h = let e = entry_of c n h in ap is_some e.1

pub of_along : (c : Chained) (k i : ℕ) → Member i (along c k) → Says c k i
unfolding along
of_along c k i m =
    let p = of_map (λ (e : ℕ × ℕ). e.1) i (filter (λ e. e.0 == k) (pairs_in c)) m in
    let f = of_filter (λ (e : ℕ × ℕ). e.0 == k) p.0 (pairs_in c) p.1 in
    let n = of_map (λ n. pair_or (entry_at c n)) p.0 (names c.nodes) f.0 in
    says_at c n.0 k i (entry_at c n.0) refl (is_entry c n.0 (row_of c.nodes n.0 n.1)) (sym (ap (λ (e : ℕ × ℕ). e.0) n.2) ∙ eqb-true p.0.0 k f.1) (sym (ap (λ (e : ℕ × ℕ). e.1) n.2) ∙ sym p.2)

-- ---- the sides along an edge

pub listed : Chained → ℕ → List ℕ
listed c k = ascending nat_cmp (along c k)

pub in_listed : (c : Chained) (k i : ℕ) → Says c k i → Member i (listed c k)
unfolding listed
in_listed c k i s = lists.in_ascending nat_cmp nat_cmp_total nat_exact i (along c k) (in_along c k i s)

pub of_listed : (c : Chained) (k i : ℕ) → Member i (listed c k) → Says c k i
unfolding listed
of_listed c k i m = of_along c k i (lists.of_ascending nat_cmp nat_cmp_total nat_exact i (along c k) m)

pub listed_ascends : (c : Chained) (k : ℕ) → IsAscending nat_cmp (listed c k)
unfolding listed
listed_ascends c k = IsAscending-ascending nat_cmp nat_cmp_total (along c k)

-- the history's words
pub held_is : (p : Past) (c : Chained) (d : DartId) → p.pairs ≡ pairs_in c → strands_on p d ≡ listed c d.0
unfolding strands_on listed along
held_is p c d e = ap (λ (ps : List (ℕ × ℕ)). ascending nat_cmp (map (λ e. e.1) (filter (λ e. e.0 == d.0) ps))) e

-- an ascending list of all that is said along a key
pub listed_from : (c : Chained) (k : ℕ) (xs : List ℕ) → IsAscending nat_cmp xs → ((i : ℕ) → Member i xs → Says c k i) → ((i : ℕ) → Says c k i → Member i xs) → listed c k ≡ xs
listed_from c k xs a f g = ascending_unique nat_cmp nat_cmp_total (listed c k) xs (listed_ascends c k) a (λ i m. g i (of_listed c k i m)) (λ i m. in_listed c k i (f i m))
