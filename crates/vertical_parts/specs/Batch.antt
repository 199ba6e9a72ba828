-- Where each of many points lies.
use Rattle.std.specs.Prelude.{◌≡◌, ◌<◌, ℕ, List, length, slice_index_or}
use Rattle.exact_plane.specs.Point.{Point}
use Rattle.slab_laws.specs.View.{View, Faces, face_id}
use Rattle.dcel_records.specs.declared.spot.Spot.{Spot}
use Rattle.dcel_records.specs.declared.spot.Spot.TheVariants.{Face}
use Rattle.face_location.specs.Spots.{IsSpotOf}
use Rattle.vertical_parts.specs.Queries.{point_at}

-- the spot at a place
abbrev pub spot_at : List Spot → ℕ → Spot
spot_at spots i = slice_index_or spots i (Face (face_id 0))

-- for each point the spot where it lies (CGAL manual, batched point location)
pub record AreSpotsOf (v : View) (f : Faces) (points : List Point) (answers : List Spot) : Type 0 where
  pub counted : length answers ≡ length points
  pub spots : (i : ℕ) → i < length points → IsSpotOf v f (point_at points i) (spot_at answers i)
