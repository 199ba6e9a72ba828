-- When an edge may be split at a point, and the change that tells of it.
use Rattle.std.specs.Prelude.{◌≡◌, ◌≢◌, true}
use Rattle.exact_plane.specs.Point.{Point}
use Rattle.slab_laws.specs.declared.names.DartId.{DartId}
use Rattle.slab_laws.specs.declared.names.VertexId.{VertexId}
use Rattle.slab_laws.specs.Skeleton.{inside}
use Rattle.slab_laws.specs.Sound.{edge_in, dart_in}
use Rattle.slab_laws.specs.View.{View, HasVertex, HasDart}
use Rattle.arr_notes.specs.declared.change.Change.{Change}
use Rattle.arr_notes.specs.declared.change.Change.TheVariants.{SplitEdge}

-- d goes from the lower end of an edge to the upper, and p lies inside the edge (CGAL manual, `split_edge`)
pub record CanSplit (v : View) (d : DartId) (p : Point) : Type 0 where
  pub dart : HasDart v d
  pub forward : (dart_in v d).forward ≡ true
  pub inside_edge : inside (edge_in v d) p ≡ true

-- the change tells of the edge of d, split at p, by a name for the vertex and two for the darts of the upper part (this project)
abbrev pub TellsOfSplit : Change → DartId → Point → Type 0
TellsOfSplit c d p = (w : VertexId) × (n : DartId) × (m : DartId) × (c ≡ SplitEdge d w p n m)

-- a name that no vertex has, and two names of which no dart has one (this project)
pub record IsNewPlace (v : View) (w : VertexId) (n m : DartId) : Type 0 where
  pub vertex : ¬ HasVertex v w
  pub first : ¬ HasDart v n
  pub second : ¬ HasDart v m
  pub two : n ≢ m
