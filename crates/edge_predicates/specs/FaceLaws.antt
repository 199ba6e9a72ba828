-- The face of a point that is on no vertex and on no edge is told by the edge directly below it.
use Rattle.std.specs.Prelude.{Option, Some, None}
use Rattle.std.specs.List.{Contains}
use Rattle.exact_plane.specs.Point.{Point}
use Rattle.plane_graphs.specs.Graph.{Edge}
use Rattle.slab_laws.specs.declared.slab_cell.SlabCell.{SlabCell}
use Rattle.slab_laws.specs.Skeleton.{Skeleton, HasWeight, IsPlaneSkeleton}
use Rattle.slab_laws.specs.Slabs.{left_cell}
use Rattle.slab_laws.specs.Meets.{SameFace}
use Rattle.slab_laws.specs.Darts.{ahead}
use Rattle.slab_laws.specs.Cycles.{left_of_dart}
use Rattle.slab_laws.specs.Subdivision.{first_cell}
use Rattle.slab_faces.specs.PointLaws.{IsApart}
use Rattle.edge_predicates.specs.Highest.{IsHighestBelow}

-- a cell of the face over the edge, or of the unbounded face (this project)
abbrev pub cell_over : Skeleton → Option Edge → SlabCell
cell_over g None = first_cell
cell_over g (Some e) = left_of_dart g (ahead e)

-- the face of a point is that on the left of the highest edge below it, gone from its lower end to its upper; where there is none, the unbounded one (CGAL manual, vertical ray shooting; Fogel, Halperin and Wein: a point's trapezoid)
abbrev pub FaceIsOverHighest : Type 0
FaceIsOverHighest =
    (g : Skeleton) (q : Point) (o : Option Edge) → IsPlaneSkeleton g → HasWeight q → IsApart g q → IsHighestBelow (Contains g.edges) q o → SameFace g (cell_over g o) (left_cell g q)
