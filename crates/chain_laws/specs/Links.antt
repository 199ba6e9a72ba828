-- Chains of nodes: doubly linked lists whose links are names (Knuth, The Art of Computer Programming, doubly linked lists).
use Rattle.std.specs.Prelude.{◌≡◌, ◌↔◌, ◌==◌, ℕ, zero, suc, Bool, false, not, List, [], ◌∷◌, Option, Some, None, option_map, IsSome, Contains}
use Rattle.std.specs.List.{filter, IsDistinct}
use Rattle.slab_laws.specs.FaceLists.{follower}

-- a node: the key of its chain, and its neighbours there
pub record Node : Type 0 where
  pub key : ℕ
  pub before : Option ℕ
  pub after : Option ℕ

abbrev pub first_or : Option (Option ℕ) → Option ℕ
first_or None = None
first_or (Some n) = n

-- the nodes from one on, as far as so many steps go
unfoldable pub trail : (ℕ → Option ℕ) → ℕ → Option ℕ → List ℕ
trail after steps None = []
trail after zero (Some n) = []
trail after (suc steps) (Some n) = n ∷ trail after steps (after n)

-- what comes directly after m in the list, and None after its last
unfoldable pub comes_after : List ℕ → ℕ → Option ℕ
comes_after ns m = follower (λ n. n == m) ns

-- the list without a name
abbrev pub without : ℕ → List ℕ → List ℕ
without n xs = filter (λ m. not (m == n)) xs

-- the node after one, the node before it, and the key of its chain, where a name is known to be a node
abbrev pub after_at : (ℕ → Option Node) → ℕ → Option ℕ
after_at node n = first_or (option_map (λ x. x.after) (node n))

abbrev pub before_at : (ℕ → Option Node) → ℕ → Option ℕ
before_at node n = first_or (option_map (λ x. x.before) (node n))

abbrev pub key_at : (ℕ → Option Node) → ℕ → Option ℕ
key_at node n = option_map (λ x. x.key) (node n)

-- the list goes on with the first after the last: each of its nodes knows the one before it and the one after it
abbrev pub IsLinked : (ℕ → Option Node) → Option ℕ → Option ℕ → List ℕ → Type 0
IsLinked node last first [] = first ≡ None
IsLinked node last first (x ∷ xs) = (first ≡ Some x) × (before_at node x ≡ last) × IsLinked node (Some x) (after_at node x) xs

-- the list is the chain of the key: linked from its head on, and the nodes with the key, each once
pub record IsListed (node : ℕ → Option Node) (first : Option ℕ) (k : ℕ) (xs : List ℕ) : Type 0 where
  pub linked : IsLinked node None first xs
  pub members : (n : ℕ) → Contains xs n ↔ (key_at node n ≡ Some k)
  pub once : IsDistinct ◌==◌ xs

-- each key has its list, and each node's key has a head
pub record AreListed (head : ℕ → Option (Option ℕ)) (node : ℕ → Option Node) : Type 0 where
  pub lists : (k : ℕ) → (xs : List ℕ) × IsListed node (first_or (head k)) k xs
  pub keys : (n k : ℕ) → key_at node n ≡ Some k → IsSome (head k)

-- a node with another one after it, or before it
abbrev pub followed_by : Option ℕ → Node → Node
followed_by after x = record { key = x.key; before = x.before; after = after }

abbrev pub led_by : Option ℕ → Node → Node
led_by before x = record { key = x.key; before = before; after = x.after }

-- whether the name is the one that there may be
abbrev pub is_at : Option ℕ → ℕ → Bool
is_at None n = false
is_at (Some m) n = n == m
