-- How an edge of a view lies to a point.
use Rattle.std.specs.Prelude.{◌≡◌, false, Option, MatchOption}
use Rattle.exact_plane.specs.Point.{Point}
use Rattle.slab_laws.specs.declared.names.DartId.{DartId}
use Rattle.slab_laws.specs.Skeleton.{inside}
use Rattle.slab_laws.specs.Sound.{skeleton_of, edge_in}
use Rattle.slab_laws.specs.View.{View}
use Rattle.edge_predicates.specs.Highest.{IsSpanning}
use Rattle.edge_predicates.specs.Levels.{IsSeen}
use Rattle.dcel_records.specs.declared.spot.Met.TheVariants.{Edge}
use Rattle.dcel_records.specs.Spots.{IsMet}
use Rattle.sound_views.specs.ForwardDarts.{IsForwardOf}
use Rattle.face_location.specs.Below.{IsSeenDart}
use Rattle.face_location.specs.declared.passing.Passing.{Passing}
use Rattle.face_location.specs.declared.passing.Passing.TheVariants.{Below, Through, Apart}

-- the forward dart along the edge of d, where q is between its ends, or none where it isn't (this project)
abbrev pub IsSpanningDart : View → DartId → Point → Option DartId → Type 0
IsSpanningDart v d q found = MatchOption found (IsSpanning (edge_in v d) q → ⊥) (λ f. IsForwardOf v d f × IsSpanning (edge_in v d) q)

-- the edge of d hasn't q inside, and q doesn't see it (this project)
pub record IsPast (v : View) (q : Point) (d : DartId) : Type 0 where
  pub outside : inside (edge_in v d) q ≡ false
  pub unseen : IsSeen (skeleton_of v) q (edge_in v d) → ⊥

-- q sees the edge of d below it, and f is the forward dart along it (Fogel, Halperin and Wein: vertical ray shooting)
pub record IsBelow (v : View) (q : Point) (d f : DartId) : Type 0 where
  pub outside : inside (edge_in v d) q ≡ false
  pub along : edge_in v f ≡ edge_in v d
  pub seen : IsSeenDart v q f

-- the edge of d lies so to q (Fogel, Halperin and Wein: vertical ray shooting)
abbrev pub IsPassing : View → Point → DartId → Passing → Type 0
IsPassing v q d (Below f) = IsBelow v q d f
IsPassing v q d (Through f) = IsMet v q (Edge f)
IsPassing v q d Apart = IsPast v q d
