-- What one look at a cycle tells.
use Rattle.std.specs.Prelude.{◌≡◌}
use Rattle.exact_plane.specs.WholeParts.{whole_parts}
use Rattle.exact_plane.specs.declared.whole_parts.BoundingBox.{BoundingBox}
use Rattle.slab_laws.specs.declared.names.CycleId.{CycleId}
use Rattle.slab_laws.specs.declared.names.DartId.{DartId}
use Rattle.slab_laws.specs.FaceLists.{Lists}
use Rattle.slab_laws.specs.View.{View, Faces, HasDart, cycle_in, point_in, source_in, target_in}
use Rattle.dcel_records.specs.Areas.{Covers}
use Rattle.dcel_records.specs.declared.spot.Spot.TheVariants.{Edge}
use Rattle.counted_looks.specs.Looks.{IsLookOf}
use Rattle.counted_looks.specs.declared.cycle_glimpse.CycleGlimpse.{CycleGlimpse}

-- the box has the whole parts of both ends of the dart
pub record HasEnds (v : View) (k : BoundingBox) (d : DartId) : Type 0 where
  pub source : Covers k (whole_parts (point_in v (source_in v d)))
  pub target : Covers k (whole_parts (point_in v (target_in v d)))

-- the dart that is kept for the cycle, what a look at it tells, and a box that has both ends of each dart on the cycle, but needn't be the least one (CGAL, Bbox_2)
pub record IsCycleLookOf (v : View) (f : Faces) (l : Lists) (c : CycleId) (g : CycleGlimpse) : Type 0 where
  pub dart : g.dart ≡ l.dart_on c
  pub first : IsLookOf v (Edge g.dart) g.first
  pub area : (d : DartId) → HasDart v d → cycle_in f d ≡ c → HasEnds v g.area d
