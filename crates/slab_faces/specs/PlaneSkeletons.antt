-- What signs and counts call plane is what the field calls a straight-line graph.
use Rattle.std.specs.Prelude.{◌≡◌, ◌⊎◌, ◌↔◌, true}
use Rattle.std.specs.List.{Contains}
use Rattle.exact_plane.specs.Point.{Point}
use Rattle.exact_plane.specs.PointOrder.{point_cmp}
use Rattle.plane_graphs.specs.Ascending.{Member, IsAscending}
use Rattle.plane_graphs.specs.Line.{IsProper}
use Rattle.plane_graphs.specs.Graph.{Graph, Edge, edge_cmp, spans}
use Rattle.plane_graphs.specs.Plane.{IsPlane}
use Rattle.plane_graphs.specs.Meaning.{IsEndOfEdge, IsListed, IsStraightLineGraph}
use Rattle.slab_laws.specs.Skeleton.{Skeleton, IsPlaneSkeleton}
use Rattle.slab_laws.specs.Text.{skeleton}

-- what signs and counts call plane is a straight-line graph: two edges share ends only
abbrev pub PlaneSkeletonsShareEnds : Type 0
PlaneSkeletonsShareEnds =
    (g : Skeleton) → IsPlaneSkeleton g → ((x : Point) → Contains g.vertices x → IsProper x) → (e f : Edge) (t : Point) → Contains g.edges e → Contains g.edges f → IsProper t → spans e.low e.high t ≡ true → spans f.low f.high t ≡ true → (e ≡ f) ⊎ (IsEndOfEdge t e × IsEndOfEdge t f)

-- a skeleton whose lists ascend and whose points are points is plane by signs and counts exactly where it is a straight-line graph
abbrev pub PlaneSkeletonsAreDrawn : Type 0
PlaneSkeletonsAreDrawn =
    (g : Skeleton) → IsAscending point_cmp g.vertices → IsAscending edge_cmp g.edges → ((x : Point) → Member x g.vertices → IsProper x) → (IsPlaneSkeleton g ↔ IsStraightLineGraph g.vertices g.edges)

-- so a graph whose lists ascend is plane where its skeleton is
abbrev pub PlaneBySkeleton : Type 0
PlaneBySkeleton = (g : Graph) → IsListed g → IsPlaneSkeleton (skeleton g) → IsPlane g
