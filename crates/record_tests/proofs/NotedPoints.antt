-- Points of what is looked at.
use Rattle.std.proofs.Common.{◌≡◌, subst}
use Rattle.slab_laws.specs.View.{View}
use Rattle.dcel_records.specs.declared.spot.Spot.{Spot}
use Rattle.counted_looks.specs.declared.boundary_part.BoundaryPart.{BoundaryPart}
use Rattle.counted_looks.specs.declared.boundary_part.BoundaryPart.TheVariants.{Dart, Isolated}
use Rattle.counted_looks.specs.declared.glance.Looked.{Looked}
use Rattle.counted_looks.specs.Boundaries.{spot_of}
use Rattle.counted_looks.specs.Looks.{IsLookOf}
use Rattle.record_tests.specs.Noted.{point_of}

-- what a look at a part tells first is the part's point
pub source_is : (v : View) (t : BoundaryPart) (s : Spot) (l : Looked) → s ≡ spot_of t → IsLookOf v s l → l.source ≡ point_of v t
source_is v (Dart d) s l e h = (subst (λ s. IsLookOf v s l) e h).0
source_is v (Isolated w) s l e h = (subst (λ s. IsLookOf v s l) e h).0
