-- What a caller sees of chains, read from their heads and nodes, and what it sees after each change.
use Rattle.std.proofs.Common.{◌≡◌, ◌≢◌, ◌⊎◌, ◌↔◌, inl, ℕ, suc, ◌+◌, ◌≤◌, nat_eq, true, List, [], ◌∷◌, ◌++◌, length, slice_index_or, Option, Some, None, is_some, IsSome, option_map, if◌then◌else◌, Result, Ok, OnOk, refl, sym, ap, subst, ◌∙◌, arith, Contains}
use Rattle.std.specs.List.{IsDistinct}
use Rattle.std.specs.HashMap.{Updates as UpdatesKey}
use Rattle.std.specs.Map.{lookup}
use Rattle.indexmap.specs.IndexMap.{IndexMap, insert_entry}
use Rattle.slab.specs.Slab.{Slab, get, slab_len}
use Rattle.slab_laws.specs.FaceLists.{first_of}
use Rattle.slab_laws.specs.Tables.{row_at}
use Rattle.chain_laws.specs.Links.{Node as ChainNode, first_or, comes_after, after_at, before_at, key_at, IsLinked, IsListed, AreListed}
use Rattle.linked_chains.specs.declared.node.Entry.{Entry}
use Rattle.linked_chains.specs.declared.node.Node.{Node}
use Rattle.linked_chains.specs.Chains.{Chained, HasKey, HasNode, entry_at, chain, IsWhole}
use Rattle.linked_chains.specs.ChainsInMemory.{chained, node_of, nodes_of, AreSoundChains}
use Rattle.chain_laws.proofs.Distinct.{nowhere}
use Rattle.linked_chains.proofs.Reading.{has_node, row_lookup, entry_is, chain_is, chain_within, whole, keys, first_is, next_is}
use Rattle.chain_laws.proofs.Listed.{listed_heads, list_same, listed_nodes}
use Rattle.chain_laws.proofs.Linked.{head_is}
use Rattle.linked_chains.proofs.Heads.{key_fewer, first_fewer, key_more, first_more, entries_more}

module _ {S : Type 0} (hs : IndexMap ℕ (Option ℕ) S) (ns : Slab Node) (h : Chained) (is : chained hs ns ≡ h) where
  -- ---- reading

  pub key_seen : (k : ℕ) → is_some (lookup (nat_eq k) hs.entries) ≡ is_some (row_at h.heads k)
  key_seen k = ap is_some (sym (row_lookup hs.entries k)) ∙ ap (λ c. is_some (row_at c.heads k)) is

  pub count_fewer : (gs : IndexMap ℕ (Option ℕ) S) (r : Option (Option ℕ)) → is_some r ≡ true → length gs.entries + (if is_some r then 1 else 0) ≡ length hs.entries → length h.heads ≡ suc (length gs.entries)
  count_fewer gs r e l =
      let a : length gs.entries + (if is_some r then 1 else 0) ≡ length gs.entries + 1 = ap (λ b. length gs.entries + (if b then 1 else 0)) e in
      let b : length hs.entries ≡ length h.heads = ap (λ c. length c.heads) is in
      omega arith

  pub node_there : (n : ℕ) → HasNode h n → IsSome (get ns n)
  node_there n s = sym (has_node ns n) ∙ ap (λ c. is_some (row_at c.nodes n)) is ∙ s

  pub node_absent : (n : ℕ) → get ns n ≡ None → ¬ HasNode h n
  node_absent n e s = let z = node_there n s in absurd (cc (z, e))

  pub entry_seen : (n : ℕ) → entry_at h n ≡ option_map (λ x. x.entry) (get ns n)
  entry_seen n = ap (λ c. entry_at c n) (sym is) ∙ entry_is hs ns n

  pub entry_found : (n : ℕ) (x : Node) → get ns n ≡ Some x → entry_at h n ≡ Some x.entry
  entry_found n x e = entry_seen n ∙ ap (option_map (λ z. z.entry)) e

  pub chain_seen : (k : ℕ) (xs : List ℕ) → IsListed (nodes_of ns) (first_or (row_at hs.entries k)) k xs → chain h k ≡ xs
  chain_seen k xs l = ap (λ c. chain c k) (sym is) ∙ chain_is hs ns k xs l

  pub chain_short : (k : ℕ) → length (chain h k) ≤ slab_len ns
  chain_short k = subst (λ c. length (chain c k) ≤ slab_len ns) is (chain_within hs ns k)

  module _ (kept : AreSoundChains hs ns) where
    pub whole_seen : (k : ℕ) → IsWhole h k
    whole_seen k = subst (λ c. IsWhole c k) is (whole hs ns kept k)

    pub keys_seen : (n : ℕ) (e : Entry) → entry_at h n ≡ Some e → HasKey h e.key
    keys_seen n e q = subst (λ c. HasKey c e.key) is (keys hs ns kept n e (ap (λ c. entry_at c n) is ∙ q))

    pub first_seen : (k : ℕ) (o : Option (Option ℕ)) → lookup (nat_eq k) hs.entries ≡ o → first_or o ≡ first_of (chain h k)
    first_seen k o e = ap first_or (sym e ∙ sym (row_lookup hs.entries k)) ∙ first_is hs ns kept k ∙ ap (λ c. first_of (chain c k)) is

    pub next_seen : (n : ℕ) (x : Node) → get ns n ≡ Some x → (e : Entry) → entry_at h n ≡ Some e → x.after ≡ comes_after (chain h e.key) n
    next_seen n x g e q =
        let z : Some x.entry ≡ Some e = sym (entry_found n x g) ∙ q in
        let w : x.entry ≡ e = cc in
        next_is hs ns kept n x g ∙ ap (λ c. comes_after (chain c x.entry.key) n) is ∙ ap (λ (y : Entry). comes_after (chain h y.key) n) w

    -- ---- after a change of heads alone
    module _ (gs : IndexMap ℕ (Option ℕ) S) (first : (k : ℕ) → first_or (row_at gs.entries k) ≡ first_or (row_at hs.entries k)) where
      pub chain_heads : (k : ℕ) → chain (chained gs ns) k ≡ chain h k
      chain_heads k =
          let l = kept.lists k in
          chain_is gs ns k l.0 (subst (λ o. IsListed (nodes_of ns) o k l.0) (sym (first k)) l.1) ∙ sym (chain_seen k l.0 l.1)

    pub more_keys : (gs : IndexMap ℕ (Option ℕ) S) (key : ℕ) → UpdatesKey nat_eq hs gs key (Some None) → (k : ℕ) → IsSome (row_at gs.entries k) ↔ (HasKey h k ⊎ (k ≡ key))
    more_keys gs key u k = subst (λ c. IsSome (row_at gs.entries k) ↔ (HasKey c k ⊎ (k ≡ key))) is (key_more hs gs key u k)

    pub chain_more : (gs : IndexMap ℕ (Option ℕ) S) (key : ℕ) → UpdatesKey nat_eq hs gs key (Some None) → ¬ HasKey h key → (k : ℕ) → chain (chained gs ns) k ≡ chain h k
    chain_more gs key u new = chain_heads gs (first_more hs gs key u (λ s. new (subst (λ c. HasKey c key) is s)))

    pub entries_after : (gs : IndexMap ℕ (Option ℕ) S) (key : ℕ) → ¬ HasKey h key → gs.entries ≡ insert_entry nat_eq hs.entries key None → gs.entries ≡ h.heads ++ (key, None) ∷ []
    entries_after gs key new e = entries_more hs gs key (λ s. new (subst (λ c. HasKey c key) is s)) e ∙ ap (λ c. c.heads ++ (key, None) ∷ []) is

    pub fewer_keys : (gs : IndexMap ℕ (Option ℕ) S) (key : ℕ) → UpdatesKey nat_eq hs gs key None → (k : ℕ) → IsSome (row_at gs.entries k) ↔ (HasKey h k × (k ≢ key))
    fewer_keys gs key u k = subst (λ c. IsSome (row_at gs.entries k) ↔ (HasKey c k × (k ≢ key))) is (key_fewer hs gs key u k)

    nothing : (o : Option ℕ) (xs : List ℕ) → o ≡ None → IsLinked (nodes_of ns) None o xs → xs ≡ []
    nothing o [] e l = refl
    nothing o (x ∷ xs) e l = let z : None ≡ Some x = sym e ∙ l.0 in absurd (cc)

    pub no_chain : (k : ℕ) → ¬ HasKey h k → chain h k ≡ []
    no_chain k new = chain_seen k (kept.lists k).0 (kept.lists k).1 ∙ nothing _ (kept.lists k).0 (none (row_at hs.entries k) (λ s. new (subst (λ c. HasKey c k) is s))) (kept.lists k).1.linked
      where
        none : (o : Option (Option ℕ)) → ¬ IsSome o → first_or o ≡ None
        none None s = refl
        none (Some x) s = absurd (s refl)

    pub kept_more : (gs : IndexMap ℕ (Option ℕ) S) (key : ℕ) → UpdatesKey nat_eq hs gs key (Some None) → ¬ HasKey h key → AreSoundChains gs ns
    kept_more gs key u new = listed_heads (row_at hs.entries) (row_at gs.entries) (nodes_of ns) (first_more hs gs key u (λ s. new (subst (λ c. HasKey c key) is s))) (λ n k e s. (key_more hs gs key u k).1 (inl s)) kept

    empty_list : (key : ℕ) → chain h key ≡ [] → (kept.lists key).0 ≡ []
    empty_list key e = sym (chain_seen key (kept.lists key).0 (kept.lists key).1) ∙ e

    pub empty_first : (key : ℕ) → chain h key ≡ [] → first_or (row_at hs.entries key) ≡ None
    empty_first key e = head_is (nodes_of ns) None _ (kept.lists key).0 (kept.lists key).1.linked ∙ ap first_of (empty_list key e)

    pub kept_fewer : (gs : IndexMap ℕ (Option ℕ) S) (key : ℕ) → UpdatesKey nat_eq hs gs key None → chain h key ≡ [] → AreSoundChains gs ns
    kept_fewer gs key u e = listed_heads (row_at hs.entries) (row_at gs.entries) (nodes_of ns) (first_fewer hs gs key u (empty_first key e)) (λ n k q s. (key_fewer hs gs key u k).1 (s, λ z. free n (subst (λ y. key_at (nodes_of ns) n ≡ Some y) z q))) kept
      where
        free : (n : ℕ) → key_at (nodes_of ns) n ≢ Some key
        free n q = nowhere n (subst (λ xs. Contains xs n) (empty_list key e) (((kept.lists key).1.members n).1 q))

    pub chain_fewer : (gs : IndexMap ℕ (Option ℕ) S) (key : ℕ) → UpdatesKey nat_eq hs gs key None → chain h key ≡ [] → (k : ℕ) → chain (chained gs ns) k ≡ chain h k
    chain_fewer gs key u e = chain_heads gs (first_fewer hs gs key u (empty_first key e))

    -- ---- after a change of nodes that leaves keys and neighbours
    module _ (ts : Slab Node) (a : (n : ℕ) → after_at (nodes_of ts) n ≡ after_at (nodes_of ns) n) (b : (n : ℕ) → before_at (nodes_of ts) n ≡ before_at (nodes_of ns) n) (q : (n : ℕ) → key_at (nodes_of ts) n ≡ key_at (nodes_of ns) n) where
      pub chains_same : (k : ℕ) → chain (chained hs ts) k ≡ chain h k
      chains_same k = let l = kept.lists k in chain_is hs ts k l.0 (list_same (nodes_of ns) (nodes_of ts) _ k l.0 a b q l.1) ∙ sym (chain_seen k l.0 l.1)

      pub nodes_kept : AreSoundChains hs ts
      nodes_kept = listed_nodes (row_at hs.entries) (nodes_of ns) (nodes_of ts) a b q kept

-- ---- slabs and maps that keep all that they hold, or hold nothing
abbrev in_slots : List (Option Node) → ℕ → Option ChainNode
in_slots os n = option_map node_of (slice_index_or os n None)

pub kept_held : (es fs : List (ℕ × Option ℕ)) (os ps : List (Option Node)) → fs ≡ es → ps ≡ os → AreListed (row_at es) (in_slots os) → AreListed (row_at fs) (in_slots ps)
kept_held es fs os ps a b l = subst (λ z. AreListed (row_at z) (in_slots ps)) (sym a) (subst (λ z. AreListed (row_at es) (in_slots z)) (sym b) l)

kept_nothing : AreListed (row_at []) (in_slots [])
unfolding row_at IsDistinct
kept_nothing = record {
  lists = λ k. ([], record { linked = refl; members = λ n. (λ c. absurd (nowhere n c), λ (e : None ≡ Some k). absurd (cc)); once = tt });
  keys = λ n k (e : None ≡ Some k). absurd (cc);
}

pub kept_empty : (es : List (ℕ × Option ℕ)) (os : List (Option Node)) → es ≡ [] → os ≡ [] → AreListed (row_at es) (in_slots os)
kept_empty es os a b = kept_held [] es [] os a b kept_nothing

pub no_key : (es : List (ℕ × Option ℕ)) → es ≡ [] → (k : ℕ) → ¬ IsSome (row_at es k)
unfolding row_at
no_key es e k s = let z : IsSome (row_at {X = Option ℕ} [] k) = subst (λ fs. IsSome (row_at fs k)) e s in absurd (cc)

-- what a call ensures where it succeeds
pub succeeded : {T E P : Type 0} (r : Result T E) (x : T) → r ≡ Ok x → OnOk r P → P
succeeded {T} {E} {P} r x e h = subst (λ z. OnOk z P) e h
