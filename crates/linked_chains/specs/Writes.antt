-- What the writers do to nodes and heads (this project).
use Rattle.std.specs.Prelude.{◌≡◌, ◌==◌, ◌&&◌, ℕ, cond, Option, Some, is_none, length}
use Rattle.indexmap.specs.IndexMap.{IndexMap, spare}
use Rattle.slab_laws.specs.Tables.{row_at}
use Rattle.linked_chains.specs.declared.node.Node.{Node}

-- a node with another one after it, or before it, or with another twin
abbrev pub row_followed : Option ℕ → Node → Node
row_followed after x = record { entry = x.entry; before = x.before; after = after }

abbrev pub row_led : Option ℕ → Node → Node
row_led before x = record { entry = x.entry; before = before; after = x.after }

abbrev pub twinned_with : ℕ → Node → Node
twinned_with twin x = record { entry = record { key = x.entry.key; item = x.entry.item; twin = twin }; before = x.before; after = x.after }

-- the key has another head, unless a node is before it
pub record IsHeaded {S V : Type 0} (key : ℕ) (before : Option ℕ) (first : V) (old new : IndexMap ℕ V S) : Type 0 where
  pub heads : (k : ℕ) → row_at new.entries k ≡ cond ((k == key) && is_none before) (Some first) (row_at old.entries k)
  pub len : length new.entries ≡ length old.entries
  pub spare : spare new ≡ spare old
