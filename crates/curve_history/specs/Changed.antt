-- What one pair of an edge and one more curve, or fewer, changes in chains by edge and by curve (this project).
use Rattle.std.specs.Prelude.{◌≡◌, ◌≢◌, ◌⊎◌, ◌↔◌, ◌<◌, ◌≤◌, ◌==◌, ℕ, List, not, Option, Some, None}
use Rattle.std.specs.List.{filter}
use Rattle.plane_graphs.specs.Ascending.{Member}
use Rattle.slab_laws.specs.FaceLists.{first_of}
use Rattle.chain_laws.specs.Links.{comes_after}
use Rattle.linked_chains.specs.Chains.{Chained, HasKey, entry_at, chain, put_at}
use Rattle.linked_chains.specs.declared.node.Entry.{Entry}
use Rattle.curve_history.specs.HistoryInMemory.{Says, entry, item_in}
use Rattle.edit_steps.specs.EditLaws.{curve_of}

-- both have the same keys, and the new ones no less room for more; as many nodes fit in all
pub record AreSameKeys (old new : Chained) : Type 0 where
  pub keys : (k : ℕ) → HasKey old k ↔ HasKey new k
  pub room : old.spare_keys ≤ new.spare_keys
  pub capacity : new.capacity_of_nodes ≡ old.capacity_of_nodes

-- one more pair is said, and every old node stays
pub record IsPairMore (old new : Chained) (edge curve : ℕ) : Type 0 where
  pub said : Says new edge curve
  pub stays : (n : ℕ) (e : Entry) → entry_at old n ≡ Some e → entry_at new n ≡ Some e
  pub others : (k i : ℕ) → Says new k i → Says old k i ⊎ ((k ≡ edge) × (i ≡ curve))
  pub chains : (k : ℕ) → k ≢ edge → chain new k ≡ chain old k
  pub keys : (k : ℕ) → HasKey new k → HasKey old k ⊎ (k ≡ edge)

-- the node that there may be is one of the edge
abbrev pub IsOfEdge : Chained → ℕ → Option ℕ → Type 0
IsOfEdge c edge last = (n : ℕ) → last ≡ Some n → Member n (chain c edge)

-- the node is one of the curve
abbrev pub IsOfCurve : Chained → ℕ → ℕ → Type 0
IsOfCurve c curve node = (e : Entry) × (entry_at c node ≡ Some e) × (e.key ≡ curve)

-- the first of the list, or the one directly after another one
abbrev pub next_in : List ℕ → Option ℕ → Option ℕ
next_in xs None = first_of xs
next_in xs (Some m) = comes_after xs m

-- the node that there may be says a greater number than this, and the one after it, or the first one, says no greater one
pub record IsLastAbove (c : Chained) (edge curve : ℕ) (last : Option ℕ) : Type 0 where
  pub above : (n : ℕ) → last ≡ Some n → Member n (chain c edge) × (curve < item_in c n)
  pub below : (n : ℕ) → next_in (chain c edge) last ≡ Some n → item_in c n ≤ curve

-- the node is new in the chain of the edge, says the curve, and is put first or directly after another one; the others say what they said (this project)
pub record IsPutAt (old new : Chained) (edge curve : ℕ) (last : Option ℕ) (node : ℕ) : Type 0 where
  pub fresh : ¬ Member node (chain old edge)
  pub item : item_in new node ≡ curve
  pub chain_is : chain new edge ≡ put_at last node (chain old edge)
  pub items : (n : ℕ) → Member n (chain old edge) → item_in new n ≡ item_in old n

-- one pair fewer is said, that of the node; keys stay
pub record IsPairLess (old new : Chained) (node edge curve : ℕ) : Type 0 where
  pub was : Says old edge curve
  pub gone : ¬ Says new edge curve
  pub stays : (k i : ℕ) → Says new k i → Says old k i
  pub others : (k i : ℕ) → Says old k i → Says new k i ⊎ ((k ≡ edge) × (i ≡ curve))
  pub chains : (k : ℕ) → chain new k ≡ filter (λ n. not (n == node)) (chain old k)
  pub keys : (k : ℕ) → HasKey new k → HasKey old k

-- the pair that the node said is said no more; keys stay (this project)
abbrev pub LosesPairOf : Chained → Chained → ℕ → Type 0
LosesPairOf old new node = (k i t : ℕ) → entry_at old node ≡ Some (entry k i t) → IsPairLess old new node k i

-- at most the pair of an edge and a curve is gone; keys stay
pub record IsOneLess (old new : Chained) (edge curve : ℕ) : Type 0 where
  pub gone : ¬ Says new edge curve
  pub stays : (k i : ℕ) → Says new k i → Says old k i
  pub others : (k i : ℕ) → Says old k i → Says new k i ⊎ ((k ≡ edge) × (i ≡ curve))
  pub keys : (k : ℕ) → HasKey new k → HasKey old k

-- at most pairs of an edge and sides of a curve are gone; keys stay (this project)
pub record AreSidesLess (old new : Chained) (edge curve : ℕ) : Type 0 where
  pub stays : (k i : ℕ) → Says new k i → Says old k i
  pub others : (k i : ℕ) → Says old k i → Says new k i ⊎ ((k ≡ edge) × (curve_of i ≡ curve))
  pub keys : (k : ℕ) → HasKey new k → HasKey old k

-- at most pairs of an edge are gone; keys stay
pub record IsEmptied (old new : Chained) (edge : ℕ) : Type 0 where
  pub stays : (k i : ℕ) → Says new k i → Says old k i
  pub others : (k i : ℕ) → Says old k i → k ≢ edge → Says new k i
  pub keys : (k : ℕ) → HasKey new k → HasKey old k

-- the pairs of an edge are those of a part of it too, which has a key only if it has some
pub record IsCopied (old new : Chained) (edge part : ℕ) : Type 0 where
  pub said : (i : ℕ) → Says old edge i → Says new part i
  pub stays : (k i : ℕ) → Says old k i → Says new k i
  pub others : (k i : ℕ) → Says new k i → Says old k i ⊎ ((k ≡ part) × Says old edge i)
  pub keys : (k : ℕ) → HasKey new k → HasKey old k ⊎ ((i : ℕ) × Says new k i)

-- the chains stay, with no less room
pub record IsRoomier (old new : Chained) : Type 0 where
  pub heads : new.heads ≡ old.heads
  pub nodes : new.nodes ≡ old.nodes
  pub keys : old.spare_keys ≤ new.spare_keys
  pub room : old.spare_nodes ≤ new.spare_nodes
