-- From the rows of a slab that are written to the nodes of chains.
use Rattle.std.proofs.Common.{◌≡◌, ℕ, Bool, true, false, cond, Option, Some, None, IsSome, option_map, refl, sym, ap, ◌∙◌}
use Rattle.plane_graphs.proofs.Lists.{some_mapped}
use Rattle.slab.specs.Slab.{Slab, get}
use Rattle.chain_laws.specs.Links.{Node as ChainNode, is_at}
use Rattle.chain_laws.specs.Rows.{IsChanged}
use Rattle.chain_laws.proofs.Changes.{AreChanged}
use Rattle.linked_chains.specs.declared.node.Node.{Node}
use Rattle.linked_chains.specs.ChainsInMemory.{node_of, nodes_of}

pub node_changed : (f : Node → Node) (F : ChainNode → ChainNode) → ((x : Node) → node_of (f x) ≡ F (node_of x)) → (at : Option ℕ) (old new : Slab Node) → IsChanged f at old new → AreChanged F at (nodes_of old) (nodes_of new)
node_changed f F q at old new c n = ap (option_map node_of) (c.rows n) ∙ by (is_at at n) (get old n)
  where
    by : (b : Bool) (o : Option Node) → option_map node_of (cond b (option_map f o) o) ≡ cond b (option_map F (option_map node_of o)) (option_map node_of o)
    by false o = refl
    by true None = refl
    by true (Some x) = ap Some (q x)

-- a node is a row
pub row_there : (s : Slab Node) (n : ℕ) → IsSome (nodes_of s n) → IsSome (get s n)
row_there s n h = sym (some_mapped node_of (get s n)) ∙ h
