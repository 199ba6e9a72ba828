-- A search graph, and what it is a map of.
use Rattle.std.specs.Prelude.{◌<◌, ◌⊎◌, ℕ, Bool, List, [], ◌∷◌, ◌++◌, is_some}
use Rattle.std.specs.List.{Contains}
use Rattle.slab_laws.specs.declared.names.DartId.{DartId}
use Rattle.slab_laws.specs.declared.names.VertexId.{VertexId}
use Rattle.slab_laws.specs.View.{View, HasVertex, IsOutOf}
use Rattle.arr_notes.specs.Curves.{IsForward}
use Rattle.locate_trapezoid.specs.declared.descent.Descent.{Descent}
use Rattle.locate_trapezoid.specs.declared.graph.Leaf.{Leaf}
use Rattle.locate_trapezoid.specs.declared.graph.SearchGraph.{SearchGraph}
use Rattle.locate_trapezoid.specs.declared.node.Test.{Test}
use Rattle.locate_trapezoid.specs.declared.node.Test.TheVariants.{Vertex, Edge}
use Rattle.locate_trapezoid.specs.Nodes.{Arena, arena, IsTree, IsDepth, IsHung, IsSplit}
use Rattle.locate_trapezoid.specs.Ways.{IsMap}
use Rattle.locate_trapezoid.specs.Counted.{IsTest, IsCounted}

-- its nodes (this project)
abbrev pub arena_of : SearchGraph → Arena
arena_of g = arena g.nodes.items

-- each node names a vertex or an edge that has a record (this project)
abbrev pub AreNamed : View → Arena → Type 0
AreNamed v a = (i : ℕ) → i < a.size → IsTest v (a.test i)

-- a tree of names, whose depth is known (this project)
pub record IsWellMade (v : View) (g : SearchGraph) : Type 0 where
  pub tree : IsTree (arena_of g)
  pub depth : IsDepth (arena_of g) g.depth
  pub named : AreNamed v (arena_of g)

-- it tells of these vertices and edges alone (this project)
abbrev pub IsMapOf : View → List Test → SearchGraph → Type 0
IsMapOf v us g = IsMap v (arena_of g) (λ q. IsCounted v us)

-- all of them have records (this project)
abbrev pub AreTests : View → List Test → Type 0
AreTests v us = (u : Test) → Contains us u → IsTest v u

-- whatever was in it before, one more is now (this project)
abbrev pub IsPutIn : View → Test → SearchGraph → SearchGraph → Type 0
IsPutIn v u g h = (us : List Test) → AreTests v us → IsMapOf v us g → IsMapOf v (us ++ (u ∷ [])) h

-- the leaf to which an edge came down is split by it, with these as its ends (this project)
abbrev pub IsSplitBy : SearchGraph → Descent → VertexId → VertexId → DartId → SearchGraph → Type 0
IsSplitBy g d lower upper k h = IsSplit (arena_of g) d.leaf.slot d.is_lowered (is_some d.bound) lower upper k (arena_of h)

-- a node for the vertex was left out, or hangs at the leaf, and the way goes on there (this project)
abbrev pub IsHungBy : SearchGraph → Leaf → VertexId → Bool → Bool → SearchGraph → Leaf → Type 0
IsHungBy g l w is_out is_more h next = IsHung (arena_of g) l.slot (Vertex w) is_more (arena_of h) next.slot is_out

-- with these three named, all nodes still name what has a record (this project)
abbrev pub AreStillNamed : SearchGraph → VertexId → VertexId → DartId → SearchGraph → Type 0
AreStillNamed g lower upper k h = (v : View) → AreNamed v (arena_of g) → IsTest v (Vertex lower) → IsTest v (Vertex upper) → IsTest v (Edge k) → AreNamed v (arena_of h)

-- each vertex is one of them, or has an edge (this project)
abbrev pub AreVerticesIn : View → List Test → Type 0
AreVerticesIn v us = (w : VertexId) → HasVertex v w → Contains us (Vertex w) ⊎ ((d : DartId) × IsOutOf v w d)

-- each edge is one of them (this project)
abbrev pub AreEdgesIn : View → List Test → Type 0
AreEdgesIn v us = (d : DartId) → IsForward v d → Contains us (Edge d)

-- a search graph of all vertices and edges of the view (de Berg and others, search structure of a trapezoidal map)
pub record IsSearchGraphOf (v : View) (g : SearchGraph) : Type 0 where
  pub made : IsWellMade v g
  pub told : IsMap v (arena_of g) (λ q. IsTest v)
