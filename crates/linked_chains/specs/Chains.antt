-- What a caller sees of chains: keys, nodes by name, and the order of each chain.
use Rattle.std.specs.Prelude.{◌≡◌, ◌↔◌, ◌==◌, ℕ, ◌+◌, List, [], ◌∷◌, cond, Option, Some, None, option_map, IsSome, Contains, length, ◌≤◌}
use Rattle.std.specs.List.{IsDistinct}
use Rattle.slab_laws.specs.Tables.{row_at}
use Rattle.chain_laws.specs.Links.{first_or, trail}
use Rattle.linked_chains.specs.declared.node.Entry.{Entry}

-- a node: what it says, and the node after it in its chain
pub record Link : Type 0 where
  pub entry : Entry
  pub after : Option ℕ

-- each key with the first node of its chain, the nodes by name, how many more of each fit with no memory, and how many nodes fit in all (this project)
pub record Chained : Type 0 where
  pub heads : List (ℕ × Option ℕ)
  pub nodes : List (ℕ × Link)
  pub spare_keys : ℕ
  pub spare_nodes : ℕ
  pub capacity_of_nodes : ℕ

-- the key has a chain, which may be empty
abbrev pub HasKey : Chained → ℕ → Type 0
HasKey c k = IsSome (row_at c.heads k)

-- the name is that of a node
abbrev pub HasNode : Chained → ℕ → Type 0
HasNode c n = IsSome (row_at c.nodes n)

-- what the node says, if there is one
abbrev pub entry_at : Chained → ℕ → Option Entry
entry_at c n = option_map (λ l. l.entry) (row_at c.nodes n)

-- the first node in the chain of the key
abbrev pub first_in : Chained → ℕ → Option ℕ
first_in c k = first_or (row_at c.heads k)

-- the node after one in its chain
abbrev pub after_in : Chained → ℕ → Option ℕ
after_in c n = first_or (option_map (λ l. l.after) (row_at c.nodes n))

-- the nodes in the chain of the key, in order
unfoldable pub chain : Chained → ℕ → List ℕ
chain c k = trail (after_in c) (length c.nodes) (first_in c k)

-- the nodes of the chain are the nodes with the key, each once
pub record IsWhole (c : Chained) (k : ℕ) : Type 0 where
  pub members : (n : ℕ) → Contains (chain c k) n ↔ ((e : Entry) × (entry_at c n ≡ Some e) × (e.key ≡ k))
  pub once : IsDistinct ◌==◌ (chain c k)

-- the node says this now, or is none, and all others say what they said
abbrev pub SetsEntry : Chained → Chained → ℕ → Option Entry → Type 0
SetsEntry old new node said = (n : ℕ) → entry_at new n ≡ cond (n == node) said (entry_at old n)

-- the added node says this item and this twin, with the key of the other one, and all others say what they said
abbrev pub SetsBeside : Chained → Chained → ℕ → ℕ → ℕ → ℕ → Type 0
SetsBeside old new node added item twin = (e : Entry) → entry_at old node ≡ Some e → SetsEntry old new added (Some (record { key = e.key; item = item; twin = twin }))

-- the entry with another twin
abbrev pub with_twin : ℕ → Entry → Entry
with_twin twin e = record { key = e.key; item = e.item; twin = twin }

-- the node has the twin now, and all others say what they said
abbrev pub SetsTwin : Chained → Chained → ℕ → ℕ → Type 0
SetsTwin old new node twin = (n : ℕ) → entry_at new n ≡ cond (n == node) (option_map (with_twin twin) (entry_at old n)) (entry_at old n)

-- the list with n put directly after m, where m stands in it
unfoldable pub put_after : ℕ → ℕ → List ℕ → List ℕ
put_after m n [] = []
put_after m n (x ∷ xs) = cond (x == m) (x ∷ n ∷ xs) (x ∷ put_after m n xs)

-- the list with n put first, or directly after another one
abbrev pub put_at : Option ℕ → ℕ → List ℕ → List ℕ
put_at None n xs = n ∷ xs
put_at (Some m) n xs = put_after m n xs

-- chain by chain both have the same nodes, and both have the same keys
pub record SameChains (old new : Chained) : Type 0 where
  pub keys : (k : ℕ) → HasKey old k ↔ HasKey new k
  pub chains : (k : ℕ) → chain new k ≡ chain old k

-- the second has room for so many keys and nodes more than the first, and no node more fits in all
pub record IsSpare (less more : Chained) (keys nodes : ℕ) : Type 0 where
  pub of_keys : less.spare_keys + keys ≤ more.spare_keys
  pub of_nodes : more.spare_nodes ≡ less.spare_nodes + nodes
  pub capacity : more.capacity_of_nodes ≡ less.capacity_of_nodes
