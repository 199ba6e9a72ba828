-- What the laws of faces have to do with graphs and presents.
use Rattle.plane_graphs.specs.Graph.{Graph}
use Rattle.plane_graphs.specs.Plane.{IsPlane}
use Rattle.slab_laws.specs.Skeleton as counted
use Rattle.slab_laws.specs.Text.{skeleton}

-- the skeleton of a plane graph is plane, so every law of faces holds for it
abbrev pub GraphIsPlaneSkeleton : Type 0
GraphIsPlaneSkeleton = (g : Graph) → IsPlane g → counted.IsPlaneSkeleton (skeleton g)
