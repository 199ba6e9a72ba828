-- Where a walk up from the unbounded face ends, and that it visits each face at most once.
use Rattle.std.specs.Prelude.{◌≢◌, ℕ, ◌+◌, ◌<◌, ◌≤◌, Option}
use Rattle.exact_plane.specs.Point.{Point}
use Rattle.plane_graphs.specs.Line.{IsProper}
use Rattle.slab_laws.specs.declared.names.DartId.{DartId}
use Rattle.slab_laws.specs.declared.names.FaceId.{FaceId}
use Rattle.slab_laws.specs.FacesSound.{IsSound}
use Rattle.slab_laws.specs.Slabs.{right_below}
use Rattle.slab_laws.specs.Sound.{skeleton_of, edge_in}
use Rattle.slab_laws.specs.View.{View, Faces, HasDart}
use Rattle.dcel_records.specs.declared.spot.Spot.TheVariants.{Face}
use Rattle.dcel_records.specs.Spots.{IsInFace}
use Rattle.edge_predicates.specs.Levels.{IsSeen, level}
use Rattle.face_location.specs.Below.{IsSeenOrNone}
use Rattle.face_location.specs.Spots.{IsSpotOf}
use Rattle.walk_laws.specs.Walks.{face_above, height, IsBoundaryPassed, size_ahead}

-- a walk in whose face nothing is higher than what it passed, and nothing is at the point, has come to the face of the point (CGAL manual, walk along a line)
abbrev pub WalkEndsInFace : Type 0
WalkEndsInFace =
    (v : View) (f : Faces) (q : Point) (o : Option DartId) → IsSound v f → IsProper q → IsSeenOrNone v q o → IsBoundaryPassed v f q o (face_above f o) → IsSpotOf v f q (Face (face_above f o))

-- a point off all vertices and edges lies in the face over the highest of the edges that it sees below it, or else in the unbounded one (CGAL manual, vertical ray shooting)
abbrev pub HighestTellsFace : Type 0
HighestTellsFace =
    (v : View) (f : Faces) (q : Point) (o : Option DartId) → IsSound v f → IsProper q → IsSeenOrNone v q o → IsInFace v q
    → ((d : DartId) → HasDart v d → IsSeen (skeleton_of v) q (edge_in v d) → level (skeleton_of v) q (edge_in v d) < height v q o)
    → IsSpotOf v f q (Face (face_above f o))

-- where all on the boundary of the walk's face was passed and a higher edge leads to another face, this one isn't ahead any more; so sizes of visited faces add up to no more than those of all faces that are ahead at first; and the walk ends, since heights are bounded (this project)
pub record FacesAreVisitedOnce : Type 0 where
  pub next : (size : FaceId → ℕ) (v : View) (f : Faces) (q : Point) (o p : Option DartId) → IsSound v f → IsSeenOrNone v q o → IsSeenOrNone v q p → height v q o < height v q p
      → IsBoundaryPassed v f q p (face_above f o) → face_above f p ≢ face_above f o → size (face_above f o) + size_ahead size v f q p ≤ size_ahead size v f q o
  pub last : (size : FaceId → ℕ) (v : View) (f : Faces) (q : Point) (o : Option DartId) → IsSound v f → IsSeenOrNone v q o → size (face_above f o) ≤ size_ahead size v f q o
  pub bounded : (v : View) (f : Faces) (q : Point) (o : Option DartId) → IsSound v f → IsProper q → IsSeenOrNone v q o → height v q o ≤ right_below (skeleton_of v) q
