-- How a map of heads and a slab of nodes are chains (this project).
use Rattle.std.specs.Prelude.{◌-◌, ℕ, Option, option_map}
use Rattle.indexmap.specs.IndexMap.{IndexMap, spare}
use Rattle.slab.specs.Slab.{Slab, get, slab_len}
use Rattle.slab_laws.specs.Tables.{row_at}
use Rattle.chain_laws.specs.Links.{Node as ChainNode, AreListed}
use Rattle.chain_laws.specs.Rows.{tabled}
use Rattle.linked_chains.specs.declared.node.Node.{Node}
use Rattle.linked_chains.specs.Chains.{Link, Chained}

-- what a caller sees of a node: all but the node before it
abbrev pub link_of : Node → Link
link_of x = record { entry = x.entry; after = x.after }

abbrev pub chained : {S : Type 0} → IndexMap ℕ (Option ℕ) S → Slab Node → Chained
chained heads nodes = record { heads = heads.entries; nodes = tabled link_of nodes; spare_keys = spare heads; spare_nodes = nodes.capacity - slab_len nodes; capacity_of_nodes = nodes.capacity }

-- a node by the key of its chain and its neighbours there
abbrev pub node_of : Node → ChainNode
node_of x = record { key = x.entry.key; before = x.before; after = x.after }

abbrev pub nodes_of : Slab Node → ℕ → Option ChainNode
nodes_of nodes n = option_map node_of (get nodes n)

-- each key has its chain
abbrev pub AreSoundChains : {S : Type 0} → IndexMap ℕ (Option ℕ) S → Slab Node → Type 0
AreSoundChains heads nodes = AreListed (row_at heads.entries) (nodes_of nodes)
