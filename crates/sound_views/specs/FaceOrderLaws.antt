-- In which order cycles and faces are met.
use Rattle.std.specs.Prelude.{◌≡◌, ◌∷◌, Bool, map, filter, length}
use Rattle.slab_laws.specs.Skeleton.{Skeleton, IsPlaneSkeleton}
use Rattle.slab_laws.specs.Darts.{Dart, darts}
use Rattle.slab_laws.specs.Faces.{face_labels, face_of, same_cell}
use Rattle.slab_laws.specs.Listed.{distinct}
use Rattle.slab_laws.specs.Rotation.{same_dart}
use Rattle.slab_laws.specs.Rows.{dart_list, least_dart_of, lead_list}
use Rattle.slab_laws.specs.Subdivision.{first_cell, subdivision}

-- the darts are on one cycle
abbrev pub same_cycle : Skeleton → Dart → Dart → Bool
same_cycle g d e = same_dart (least_dart_of g d) (least_dart_of g e)

-- of the darts in their order, the first one of each cycle is its least
abbrev pub LeadsAreFirst : Type 0
LeadsAreFirst = (g : Skeleton) → IsPlaneSkeleton g → distinct (same_cycle g) (dart_list g) ≡ lead_list g

-- the ranked faces are the unbounded one and those of the outer cycles, in the order of these: no bounded face lacks an outer cycle
abbrev pub FacesAreRanked : Type 0
FacesAreRanked =
    (g : Skeleton) → IsPlaneSkeleton g → (subdivision g).faces ≡ distinct same_cell (face_of (face_labels g) first_cell ∷ map (λ c. c.face) (filter (λ c. c.outer) (subdivision g).cycles))

-- as many darts in order as there are
abbrev pub AllAreListed : Type 0
AllAreListed = (g : Skeleton) → IsPlaneSkeleton g → length (dart_list g) ≡ length (darts g)
