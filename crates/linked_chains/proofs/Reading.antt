-- From the map of heads and the slab of nodes to what a caller sees of them.
use Rattle.std.proofs.Common.{◌≡◌, ◌↔◌, inl, inr, ℕ, zero, suc, ◌<◌, ◌≤◌, nat_eq, List, [], ◌∷◌, length, slice_index_or, Option, Some, None, is_some, IsSome, option_map, refl, sym, ap, subst, ◌∙◌, arith}
use Rattle.std.specs.Map.{lookup}
use Rattle.std.proofs.lemmas.Bool.{cases_eq}
use Rattle.slab.specs.Slab.{Slab, get, slab_len}
use Rattle.slab_laws.specs.FaceLists.{first_of}
use Rattle.slab_laws.specs.Tables.{row_at}
use Rattle.indexmap.specs.IndexMap.{IndexMap}
use Rattle.chain_laws.specs.Links.{trail, first_or, comes_after, after_at, IsListed}
use Rattle.chain_laws.specs.Rows.{tabled}
use Rattle.chain_laws.proofs.Distinct.{once_from_distinct}
use Rattle.chain_laws.proofs.Linked.{trail_is, trail_within, head_is, after_is}
use Rattle.chain_laws.proofs.Tabled.{row-tabled, length-tabled, listed_within}
use Rattle.linked_chains.specs.declared.node.Entry.{Entry}
use Rattle.linked_chains.specs.declared.node.Node.{Node}
use Rattle.linked_chains.specs.Chains.{chain, entry_at, HasKey, IsWhole, after_in}
use Rattle.linked_chains.specs.ChainsInMemory.{link_of, chained, node_of, nodes_of, AreSoundChains}
use Rattle.linked_chains.proofs.Rows.{row_there}
use Rattle.plane_graphs.proofs.Lists.{some_mapped}
use Rattle.integers.proofs.Tests.{other_number, same_number}

pub has_node : (s : Slab Node) (n : ℕ) → is_some (row_at (tabled link_of s) n) ≡ is_some (get s n)
has_node s n = ap is_some (row-tabled link_of s n) ∙ some_mapped link_of (get s n)

-- a name is below the number of slots
pub name_below : (os : List (Option Node)) (n : ℕ) → IsSome (slice_index_or os n None) → n < length os
name_below [] n s = absurd (cc)
name_below (o ∷ os) zero s = omega arith
name_below (o ∷ os) (suc n) s = let l = name_below os n s in omega (arith, l)

after_seen : (o : Option Node) → first_or (option_map (λ l. l.after) (option_map link_of o)) ≡ first_or (option_map (λ x. x.after) (option_map node_of o))
after_seen None = refl
after_seen (Some x) = refl

entry_seen : (o : Option Node) → option_map (λ l. l.entry) (option_map link_of o) ≡ option_map (λ x. x.entry) o
entry_seen None = refl
entry_seen (Some x) = refl

-- ---- a map's entries as rows
pub row_lookup : {X : Type 0} (es : List (ℕ × X)) (k : ℕ) → row_at es k ≡ lookup (nat_eq k) es
unfolding row_at
row_lookup [] k = refl
row_lookup (e ∷ es) k = elim (cases_eq e.0 k) [
  | inl q ↦ rw (q, same_number k) refl
  | inr ne ↦ rw (other_number e.0 k ne, other_number k e.0 (λ s. ne (sym s))) (row_lookup es k)
]

key_entry : (o : Option Node) (k : ℕ) → (option_map (λ x. x.key) (option_map node_of o) ≡ Some k) ↔ ((e : Entry) × (option_map (λ x. x.entry) o ≡ Some e) × (e.key ≡ k))
key_entry None k = (λ e. absurd (cc), λ r. let h : None ≡ Some r.0 = r.1 in absurd (cc))
key_entry (Some x) k = (λ e. (x.entry, refl, let q : x.entry.key ≡ k = cc in q), λ r. let h : x.entry ≡ r.0 = (let g : Some x.entry ≡ Some r.0 = r.1 in cc) in ap (λ (z : Entry). Some z.key) h ∙ ap Some r.2)

module _ {S : Type 0} (heads : IndexMap ℕ (Option ℕ) S) (nodes : Slab Node) where
  pub entry_is : (n : ℕ) → entry_at (chained heads nodes) n ≡ option_map (λ x. x.entry) (get nodes n)
  entry_is n = ap (option_map (λ l. l.entry)) (row-tabled link_of nodes n) ∙ entry_seen (get nodes n)

  after_same : (n : ℕ) → after_in (chained heads nodes) n ≡ after_at (nodes_of nodes) n
  after_same n = ap (λ o. first_or (option_map (λ l. l.after) o)) (row-tabled link_of nodes n) ∙ after_seen (get nodes n)

  -- the chain of a key is its list
  pub chain_is : (k : ℕ) (xs : List ℕ) → IsListed (nodes_of nodes) (first_or (row_at heads.entries k)) k xs → chain (chained heads nodes) k ≡ xs
  unfolding chain
  chain_is k xs l = trail_is (nodes_of nodes) (after_in (chained heads nodes)) after_same None _ xs _ l.linked (subst (λ m. length xs ≤ m) (sym (length-tabled link_of nodes)) (listed_within nodes (nodes_of nodes) (row_there nodes) _ k xs l))

  module _ (kept : AreSoundChains heads nodes) where
    pub listed : (k : ℕ) → IsListed (nodes_of nodes) (first_or (row_at heads.entries k)) k (chain (chained heads nodes) k)
    listed k = let l = kept.lists k in subst (λ xs. IsListed (nodes_of nodes) (first_or (row_at heads.entries k)) k xs) (sym (chain_is k l.0 l.1)) l.1

    pub whole : (k : ℕ) → IsWhole (chained heads nodes) k
    whole k = record {
      members = λ n. (
        λ c. let r = (key_entry (get nodes n) k).0 (((listed k).members n).0 c) in (r.0, entry_is n ∙ r.1, r.2),
        λ r. ((listed k).members n).1 ((key_entry (get nodes n) k).1 (r.0, sym (entry_is n) ∙ r.1, r.2)),
      );
      once = (listed k).once;
    }

    pub keys : (n : ℕ) (e : Entry) → entry_at (chained heads nodes) n ≡ Some e → HasKey (chained heads nodes) e.key
    keys n e q = kept.keys n e.key ((key_entry (get nodes n) e.key).1 (e, sym (entry_is n) ∙ q, refl))

    pub first_is : (k : ℕ) → first_or (row_at heads.entries k) ≡ first_of (chain (chained heads nodes) k)
    first_is k = head_is (nodes_of nodes) None _ (chain (chained heads nodes) k) (listed k).linked

    pub next_is : (n : ℕ) (x : Node) → get nodes n ≡ Some x → x.after ≡ comes_after (chain (chained heads nodes) x.entry.key) n
    next_is n x q =
        let l = listed x.entry.key in
        ap (λ o. first_or (option_map (λ z. z.after) (option_map node_of o))) (sym q) ∙ after_is (nodes_of nodes) None _ (chain (chained heads nodes) x.entry.key) n l.linked ((l.members n).1 (ap (λ o. option_map (λ z. z.key) (option_map node_of o)) q)) (once_from_distinct _ l.once)

-- no chain has more nodes than the slab
pub chain_within : {S : Type 0} (hs : IndexMap ℕ (Option ℕ) S) (ns : Slab Node) (k : ℕ) → length (chain (chained hs ns) k) ≤ slab_len ns
unfolding chain
chain_within hs ns k = subst (λ m. length (trail (after_in (chained hs ns)) (length (tabled link_of ns)) (first_or (row_at hs.entries k))) ≤ m) (length-tabled link_of ns) (trail_within (after_in (chained hs ns)) (length (tabled link_of ns)) (first_or (row_at hs.entries k)))
