-- What a round of a face's boundary finds for a query.
use Rattle.std.specs.Prelude.{None}
use Rattle.exact_plane.specs.Point.{Point}
use Rattle.slab_laws.specs.declared.names.FaceId.{FaceId}
use Rattle.slab_laws.specs.View.{View, Faces}
use Rattle.face_location.specs.Spots.{IsSpotOf}
use Rattle.locate_walk.specs.Rounds.{IsHighestRound}
use Rattle.locate_landmarks.specs.Lowest.{IsAbove, IsLowered}
use Rattle.locate_landmarks.specs.declared.descent.Descent.{Descent}
use Rattle.locate_landmarks.specs.declared.round.Round.{Round}
use Rattle.locate_landmarks.specs.declared.round.Round.TheVariants.{At, Out}

-- where the point lies; or the highest edge of the boundary that it sees below it, and an edge that it sees above it, no higher than before, if any (this project)
abbrev pub IsRound : View → Faces → Point → FaceId → Descent → Round → Type 0
IsRound v f q a d (At s) = IsSpotOf v f q s
IsRound v f q a d (Out b p) = IsHighestRound v f q a None b × IsAbove v q p × IsLowered v q d.downward d.lowest p
