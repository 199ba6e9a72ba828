-- Starts of a path's sides that are known.
use Rattle.std.specs.Prelude.{◌≡◌, ◌<◌, ℕ, List, length}
use Rattle.std.specs.List.{slice_index_or}
use Rattle.exact_plane.specs.Point.{Point}
use Rattle.exact_plane.specs.Segment.{Segment}
use Rattle.dcel_records.specs.declared.spot.Spot.{Spot}

-- the spot is the start of one of the sides, which begins at the point
pub record IsStartAmong (ss : List Segment) (starts : List Spot) (p : Point) (spot : Spot) : Type 0 where
  pub place : ℕ
  pub side : Segment
  pub within : place < length ss
  pub there : side ≡ slice_index_or ss place side
  pub begins : side.lower ≡ p
  pub start : (d : Spot) → spot ≡ slice_index_or starts place d
