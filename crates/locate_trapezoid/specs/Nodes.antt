-- The search graph in memory: nodes by number. It is a tree whose leaves are empty, since what a point meets on its way tells where it lies
-- (de Berg and others, trapezoidal map: search structure; here leaves aren't merged).
use Rattle.std.specs.Prelude.{◌≡◌, ◌⊎◌, ◌<◌, ◌≤◌, ◌+◌, ℕ, Bool, true, false, cond, List, length, nat_lt, slice_index_or, slice_set, Option, Some, None}
use Rattle.slab_laws.specs.declared.names.DartId.{DartId}
use Rattle.slab_laws.specs.declared.names.VertexId.{VertexId}
use Rattle.slab_laws.specs.View.{vertex_id}
use Rattle.locate_trapezoid.specs.declared.graph.Leaf.{Leaf}
use Rattle.locate_trapezoid.specs.declared.node.Node.{Node}
use Rattle.locate_trapezoid.specs.declared.node.Slot.{Slot}
use Rattle.locate_trapezoid.specs.declared.node.Slot.TheVariants.{Root, Child}
use Rattle.locate_trapezoid.specs.declared.node.Test.{Test}
use Rattle.locate_trapezoid.specs.declared.node.Test.TheVariants.{Vertex, Edge}

-- a node at which nothing hangs (this project)
abbrev pub bare_node : Test → Node
bare_node t = record { test = t; less = None; more = None }

-- what hangs at a node: for points before it or below it, or else for those after it or above it (this project)
abbrev pub child_of : Node → Bool → Option ℕ
child_of n false = n.less
child_of n true = n.more

-- with one more at it (this project)
abbrev pub with_child : Node → Bool → ℕ → Node
with_child n false i = record n { less = Some i }
with_child n true i = record n { more = Some i }

-- what stands where no node does (this project)
abbrev pub no_node : Node
no_node = bare_node (Vertex (vertex_id 0))

-- the node of a number (this project)
abbrev pub node_at : List Node → ℕ → Node
node_at ns i = slice_index_or ns i no_node

-- what hangs at a place; at the root the first node does (this project)
abbrev pub child_at : List Node → Slot → Option ℕ
child_at ns Root = cond (nat_lt 0 (length ns)) (Some 0) None
child_at ns (Child i b) = child_of (node_at ns i) b

-- with the place telling that the node hangs there (this project)
abbrev pub linked : List Node → Slot → ℕ → List Node
linked ns Root i = ns
linked ns (Child p b) i = slice_set ns p (with_child (node_at ns p) b i)

-- the nodes by number: what hangs at each place, what each asks, and how many there are (this project)
pub record Arena : Type 0 where
  pub child : Slot → Option ℕ
  pub test : ℕ → Test
  pub size : ℕ

-- those of a list (this project)
abbrev pub arena : List Node → Arena
arena ns = record { child = child_at ns; test = λ i. (node_at ns i).test; size = length ns }

-- a tree, in which numbers ascend downwards (de Berg and others, trapezoidal map: search structure)
pub record IsTree (a : Arena) : Type 0 where
  pub bounded : (s : Slot) (i : ℕ) → a.child s ≡ Some i → i < a.size
  pub empty : (i : ℕ) (b : Bool) → a.size ≤ i → a.child (Child i b) ≡ None
  pub later : (i j : ℕ) (b : Bool) → a.child (Child i b) ≡ Some j → i < j
  pub single : (s t : Slot) (i : ℕ) → a.child s ≡ Some i → a.child t ≡ Some i → s ≡ t

-- a place is so many nodes below the root (this project)
pub data IsDown (a : Arena) : Slot → ℕ → Type 0 where
  at_root : IsDown a Root 0
  further : (s : Slot) (n i : ℕ) (b : Bool) → IsDown a s n → a.child s ≡ Some i → IsDown a (Child i b) (n + 1)

-- the most nodes on a way down from the root (de Berg and others, trapezoidal map: depth of the search structure)
pub record IsDepth (a : Arena) (d : ℕ) : Type 0 where
  pub most : (s : Slot) (n : ℕ) → IsDown a s n → n ≤ d
  pub some : (s : Slot) × IsDown a s d

-- nothing hangs at the place, which is so many nodes below the root (this project)
pub record IsLeaf (a : Arena) (l : Leaf) : Type 0 where
  pub down : IsDown a l.slot l.level
  pub bare : a.child l.slot ≡ None

-- ---- one more node
-- it hangs where nothing hung before (this project)
pub record IsGrown (a : Arena) (s : Slot) (t : Test) (n : Arena) : Type 0 where
  pub size : n.size ≡ a.size + 1
  pub there : n.child s ≡ Some a.size
  pub fresh : (b : Bool) → n.child (Child a.size b) ≡ None
  pub kept : (u : Slot) → (u ≡ s) ⊎ (n.child u ≡ a.child u)
  pub tests : (i : ℕ) → i < a.size → n.test i ≡ a.test i
  pub asks : n.test a.size ≡ t

-- a node is left out, or hangs there, and the way goes on at it (this project)
pub data IsHung (a : Arena) (s : Slot) (t : Test) (b : Bool) (n : Arena) (u : Slot) : Bool → Type 0 where
  left_out : n ≡ a → u ≡ s → IsHung a s t b n u true
  hung : IsGrown a s t n → u ≡ Child a.size b → IsHung a s t b n u false

-- a leaf is split by an edge: by its lower end where the way hasn't passed that yet, its upper end where nothing bounds the way before it, and by the edge itself (de Berg and others, trapezoidal map: trapezoids that a segment crosses)
pub record IsSplit (a : Arena) (s : Slot) (is_lowered is_bounded : Bool) (lower upper : VertexId) (k : DartId) (n : Arena) : Type 0 where
  pub lower_map : Arena
  pub lower_slot : Slot
  pub upper_map : Arena
  pub upper_slot : Slot
  pub by_lower : IsHung a s (Vertex lower) true lower_map lower_slot is_lowered
  pub by_upper : IsHung lower_map lower_slot (Vertex upper) false upper_map upper_slot is_bounded
  pub across : IsGrown upper_map upper_slot (Edge k) n
