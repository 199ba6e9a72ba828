-- The points that a search has found, each with its spot.
use Rattle.std.specs.Prelude.{◌≡◌, ◌≢◌, true, List, ◌∷◌, Option, Some, None}
use Rattle.std.specs.Map.{keys_of}
use Rattle.exact_plane.specs.Point.{Point}
use Rattle.plane_graphs.specs.Ascending.{Member}
use Rattle.plane_graphs.specs.Line.{precedes}
use Rattle.dcel_records.specs.declared.spot.Spot.{Spot}
use Rattle.zone_walk.specs.declared.found.FoundPoints.{FoundPoints}
use Rattle.zone_walk.specs.declared.plan.Meeting.{Meeting}

-- the one that is kept apart, and the others
abbrev pub entries_of : Option Meeting → List (Point × Spot) → List (Point × Spot)
entries_of None es = es
entries_of (Some m) es = (m.point, m.spot) ∷ es

abbrev pub entries_in : FoundPoints → List (Point × Spot)
entries_in f = entries_of f.alone f.others.entries

-- all but one point are left, and it isn't there (this project)
pub record HasOthers (q : Point) (old new : List (Point × Spot)) : Type 0 where
  pub only : (r : Point) (at : Spot) → Member (r, at) new → Member (r, at) old × (r ≢ q)
  pub kept : (r : Point) → Member r (keys_of old) → r ≢ q → Member r (keys_of new)

-- a point with its spot that came out: it is before all that are left, which are all others (this project)
pub record IsFirstOf (old new : List (Point × Spot)) (m : Meeting) : Type 0 where
  pub there : Member (m.point, m.spot) old
  pub before : (r : Point) → Member r (keys_of new) → precedes m.point r ≡ true
  pub only : (r : Point) (at : Spot) → Member (r, at) new → Member (r, at) old
  pub kept : (r : Point) → Member r (keys_of old) → r ≢ m.point → Member r (keys_of new)
