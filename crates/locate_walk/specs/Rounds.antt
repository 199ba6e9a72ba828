-- What a round of a face's boundary finds, and how many looks the walk takes.
use Rattle.std.specs.Prelude.{ℕ, Option, None}
use Rattle.exact_plane.specs.Point.{Point}
use Rattle.slab_laws.specs.declared.names.FaceId.{FaceId}
use Rattle.slab_laws.specs.View.{View, Faces}
use Rattle.counted_looks.specs.Boundaries.{boundary_size}
use Rattle.dcel_records.specs.RecordsView.{RecordsView, tables_of}
use Rattle.face_location.specs.Spots.{IsSpotOf}
use Rattle.walk_laws.specs.Walks.{IsBoundaryPassed, size_ahead}
use Rattle.locate_walk.specs.Looks.{IsBelowOrNone, IsRaised, dart_of}
use Rattle.locate_walk.specs.declared.found.EdgeBelow.{EdgeBelow}
use Rattle.locate_walk.specs.declared.round.Round.{Round}
use Rattle.locate_walk.specs.declared.round.Round.TheVariants.{At, Over}

-- the point isn't on the boundary of the face, and this is the highest edge there that it sees below it, or the one before, if none is higher (Fogel, Halperin and Wein: vertical ray shooting)
pub record IsHighestRound (v : View) (f : Faces) (q : Point) (a : FaceId) (last best : Option EdgeBelow) : Type 0 where
  pub below : IsBelowOrNone v q best
  pub raised : IsRaised v q (dart_of last) (dart_of best)
  pub passed : IsBoundaryPassed v f q (dart_of best) a

abbrev pub IsRound : View → Faces → Point → FaceId → Option EdgeBelow → Round → Type 0
IsRound v f q a last (At s) = IsSpotOf v f q s
IsRound v f q a last (Over best) = IsHighestRound v f q a last best

-- the sizes of the boundaries of all faces that the leant vertical below the point passes, each face once: the unbounded one, and those over the edges that the point sees below it (CGAL manual, walk along a line)
abbrev pub looks_below : View → Faces → Point → ℕ
looks_below v f q = size_ahead (boundary_size v f) v f q None

-- the same of the faces that are ahead of a walk from an edge that the point sees below it (this project)
abbrev pub looks_ahead : RecordsView → Point → Option EdgeBelow → ℕ
looks_ahead h q first = size_ahead (boundary_size h.graph (tables_of h)) h.graph (tables_of h) q (dart_of first)
