-- What location answers for a vertex, for a point on an edge, and for any other; and which faces there are.
use Rattle.std.specs.Prelude.{◌≡◌, ◌<◌, true, false, length}
use Rattle.std.specs.List.{Contains, count_by}
use Rattle.exact_plane.specs.Point.{Point}
use Rattle.plane_graphs.specs.Graph.{Edge}
use Rattle.slab_laws.specs.declared.slab_cell.SlabCell.{SlabCell}
use Rattle.slab_laws.specs.declared.cell.Cell.TheVariants.{Vertex, Edge as OnEdge, Face}
use Rattle.slab_laws.specs.Skeleton.{Skeleton, inside, IsPlaneSkeleton}
use Rattle.slab_laws.specs.Slabs.{left_cell}
use Rattle.slab_laws.specs.Faces.{face_labels, face_of, same_cell, cells}
use Rattle.slab_laws.specs.Subdivision.{subdivision, holds, rank}
use Rattle.slab_faces.specs.LocationLaws.{IsNoVertex}

-- q lies inside none of the edges
abbrev pub IsOnNoEdge : Skeleton → Point → Type 0
IsOnNoEdge g q = (e : Edge) → Contains g.edges e → inside e q ≡ false

-- an edge with q inside, which the location names
pub record IsLocatedOn (g : Skeleton) (q : Point) : Type 0 where
  pub edge : Edge
  pub is_edge : Contains g.edges edge
  pub inside_it : inside edge q ≡ true
  pub located : holds (subdivision g) q ≡ OnEdge edge.low edge.high

-- a vertex lies on itself; a point inside an edge, which is then no vertex, on such an edge; any other point in the face of
-- its cell
pub record LocationIs : Type 0 where
  pub on_vertex : (g : Skeleton) (v : Point) → Contains g.vertices v → holds (subdivision g) v ≡ Vertex v
  pub no_vertex : (g : Skeleton) (e : Edge) (q : Point) → IsPlaneSkeleton g → Contains g.edges e → inside e q ≡ true → IsNoVertex g q
  pub on_edge : (g : Skeleton) (e : Edge) (q : Point) → IsPlaneSkeleton g → Contains g.edges e → inside e q ≡ true → IsLocatedOn g q
  pub in_face : (g : Skeleton) (q : Point) → IsNoVertex g q → IsOnNoEdge g q → holds (subdivision g) q ≡ Face (rank (subdivision g) (face_of (face_labels g) (left_cell g q)))

-- each cell is in exactly one of the ranked faces, and that one has its rank below their number
pub record CellsHaveFaces : Type 0 where
  pub once : (g : Skeleton) (c : SlabCell) → Contains (cells g) c → count_by (same_cell (face_of (face_labels g) c)) (subdivision g).faces ≡ 1
  pub ranked : (g : Skeleton) (c : SlabCell) → Contains (cells g) c → rank (subdivision g) (face_of (face_labels g) c) < length (subdivision g).faces
