-- Sound views are views with rings.
use Rattle.slab_laws.specs.declared.names.DartId.{DartId}
use Rattle.slab_laws.specs.declared.names.VertexId.{VertexId}
use Rattle.slab_laws.specs.Skeleton.{IsPlaneSkeleton}
use Rattle.slab_laws.specs.Sound.{skeleton_of, IsNamed, IsTwinned, IsDrawn, IsGraphSound}
use Rattle.slab_laws.specs.View.{View, HasVertex, HasDart, source_in}
use Rattle.rotation_order.specs.VertexRings.{RingOf}

-- in a sound view the darts out of each vertex are a ring (this project)
abbrev pub SoundViewsHaveRings : Type 0
SoundViewsHaveRings = (v : View) (w : VertexId) → IsGraphSound v → HasVertex v w → RingOf v w

-- where the darts out of each vertex are a ring, a view whose names, twins and points are right and that draws a plane graph is sound (this project)
abbrev pub RingsMakeSoundViews : Type 0
RingsMakeSoundViews =
    (v : View) → IsNamed v → IsTwinned v → ((d : DartId) → HasDart v d → HasVertex v (source_in v d)) → IsDrawn v → IsPlaneSkeleton (skeleton_of v) → ((w : VertexId) → HasVertex v w → RingOf v w) → IsGraphSound v
