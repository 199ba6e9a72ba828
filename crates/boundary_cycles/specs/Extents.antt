-- The abscissas between which a cycle lies.
use Rattle.std.specs.Prelude.{◌≡◌, false}
use Rattle.exact_plane.specs.Point.{Point}
use Rattle.slab_laws.specs.declared.names.DartId.{DartId}
use Rattle.slab_laws.specs.FacesSound.{lead_in}
use Rattle.slab_laws.specs.Skeleton.{left_of, HasWeight}
use Rattle.slab_laws.specs.View.{View, HasDart, point_in, source_in}
use Rattle.boundary_cycles.specs.declared.extents.Extent.{Extent}

-- the point is not on the left of the left one, nor on the right of the right one (this project)
abbrev pub Covers : Extent → Point → Type 0
Covers e p = (left_of p e.left ≡ false) × (left_of e.right p ≡ false)

-- both points have positive weights (this project)
abbrev pub HasWeights : Extent → Type 0
HasWeights e = HasWeight e.left × HasWeight e.right

-- all vertices of the cycle of d are between the two (CGAL manual, bounding box)
abbrev pub IsExtent : View → DartId → Extent → Type 0
IsExtent v d e = HasWeights e × ((x : DartId) → HasDart v x → lead_in v x ≡ lead_in v d → Covers e (point_in v (source_in v x)))
