-- A point off all vertices and edges.
use Rattle.std.specs.Prelude.{◌≡◌, false}
use Rattle.std.specs.List.{Contains}
use Rattle.exact_plane.specs.Point.{Point}
use Rattle.plane_graphs.specs.Graph.{Edge}
use Rattle.slab_laws.specs.Skeleton.{Skeleton, HasWeight, precedes, inside, IsPlaneSkeleton}
use Rattle.slab_laws.specs.Meets.{SameFace}
use Rattle.slab_laws.specs.Slabs.{left_cell, right_cell}

-- q has the place of no vertex, and lies inside no edge
pub record IsApart (g : Skeleton) (q : Point) : Type 0 where
  pub from_vertices : (v : Point) → Contains g.vertices v → precedes v q ≡ false → precedes q v ≡ false → ⊥
  pub from_edges : (e : Edge) → Contains g.edges e → inside e q ≡ false

-- it has one face, whether it is looked at from its left or from its right
abbrev pub PointsHaveOneFace : Type 0
PointsHaveOneFace = (g : Skeleton) (q : Point) → IsPlaneSkeleton g → HasWeight q → IsApart g q → SameFace g (left_cell g q) (right_cell g q)
