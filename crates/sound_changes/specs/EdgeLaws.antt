-- One more edge or fewer keeps a view sound, is drawn, and changes which dart follows which.
use Rattle.plane_graphs.specs.Graph.{Edge}
use Rattle.slab_laws.specs.Skeleton.{Skeleton, IsPlaneSkeleton}
use Rattle.sound_changes.specs.NextLaws.{HasEdgeMore, IsNextWithMore, IsNextWithLess}

-- in a plane graph with one more edge a dart is followed by what followed it, but for a new dart that comes between (this project)
abbrev pub NextWithOneMoreEdge : Type 0
NextWithOneMoreEdge = (g h : Skeleton) (e : Edge) → IsPlaneSkeleton g → IsPlaneSkeleton h → HasEdgeMore g h e → IsNextWithMore g h e

-- in a plane graph with one edge fewer a dart is followed by what followed it, but where that has gone (this project)
abbrev pub NextWithOneEdgeFewer : Type 0
NextWithOneEdgeFewer = (g h : Skeleton) (e : Edge) → IsPlaneSkeleton g → IsPlaneSkeleton h → HasEdgeMore g h e → IsNextWithLess g h e
