-- What counts in a search graph: vertices, and edges by their darts from the lower to the upper end.
use Rattle.std.specs.Prelude.{◌≡◌, ◌⊎◌, ⊤, true, List, Option, Some, None}
use Rattle.std.specs.List.{Contains}
use Rattle.exact_plane.specs.Point.{Point}
use Rattle.slab_laws.specs.Skeleton.{precedes}
use Rattle.slab_laws.specs.View.{View, HasVertex, source_in, target_in}
use Rattle.arr_notes.specs.Curves.{IsForward}
use Rattle.locate_trapezoid.specs.declared.node.Test.{Test}
use Rattle.locate_trapezoid.specs.declared.node.Test.TheVariants.{Vertex, Edge}

-- the vertex, or the edge, has a record (this project)
abbrev pub IsTest : View → Test → Type 0
IsTest v (Vertex w) = HasVertex v w
IsTest v (Edge d) = IsForward v d

-- what counts once one of them is in the map: a vertex, or an edge with its ends (this project)
abbrev pub Brings : View → Test → Test → Type 0
Brings v (Vertex w) t = t ≡ Vertex w
Brings v (Edge d) t = (t ≡ Edge d) ⊎ ((t ≡ Vertex (source_in v d)) ⊎ (t ≡ Vertex (target_in v d)))

-- what counts once all of them are (this project)
abbrev pub IsCounted : View → List Test → Test → Type 0
IsCounted v us t = (u : Test) × Contains us u × Brings v u t

-- the point comes before what is left of an edge, from the point named on, or nothing is left of it (this project)
abbrev pub IsBeforeRest : Option Point → Point → Type 0
IsBeforeRest None q = ⊤
IsBeforeRest (Some c) q = precedes q c ≡ true

-- what counts for a point while one of them is put in besides (this project)
abbrev pub IsCountedSoFar : View → List Test → Test → Option Point → Point → Test → Type 0
IsCountedSoFar v us u rest q t = IsCounted v us t ⊎ (Brings v u t × IsBeforeRest rest q)
