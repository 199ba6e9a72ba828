-- What the computed subdivision has to do with cells that meet at points, and with faces.
use Rattle.std.specs.Prelude.{◌≡◌, ◌+◌, false, ◌↔◌}
use Rattle.std.specs.List.{Contains}
use Rattle.slab_laws.specs.declared.slab_cell.SlabCell.{SlabCell}
use Rattle.slab_laws.specs.Skeleton.{Skeleton, IsPlaneSkeleton}
use Rattle.slab_laws.specs.Darts.{Dart, darts, cell_of}
use Rattle.slab_laws.specs.Meets.{SameFace}
use Rattle.slab_laws.specs.Weights.{weight_above, Even}
use Rattle.slab_laws.specs.Faces.{face_labels, face_of, cell_below}
use Rattle.slab_laws.specs.Rotation.{next}
use Rattle.slab_laws.specs.Cycles.{dart_labels, darts_on}

-- cells have one label exactly where they are in one face
abbrev pub LabelsAreFaces : Type 0
LabelsAreFaces = (g : Skeleton) (c d : SlabCell) → IsPlaneSkeleton g → SameFace g c d ↔ (face_of (face_labels g) c ≡ face_of (face_labels g) d)

-- and the label is the least cell of the face
abbrev pub LabelsAreLeast : Type 0
LabelsAreLeast = (g : Skeleton) (c d : SlabCell) → IsPlaneSkeleton g → SameFace g c d → SameFace g c (face_of (face_labels g) c) × (cell_below d (face_of (face_labels g) c) ≡ false)

-- the next dart is on the border of the same face
abbrev pub ComputedNextKeepsFace : Type 0
ComputedNextKeepsFace = (g : Skeleton) (d : Dart) → IsPlaneSkeleton g → Contains g.edges d.edge → SameFace g (cell_of g d.edge d.forward) (cell_of g (next (darts g) d).edge (next (darts g) d).forward)

-- two darts with one next are one
abbrev pub NextIsOneToOne : Type 0
NextIsOneToOne = (g : Skeleton) (d e : Dart) → IsPlaneSkeleton g → Contains g.edges d.edge → Contains g.edges e.edge → next (darts g) d ≡ next (darts g) e → d ≡ e

-- a cycle's parity is the same on a whole face
abbrev pub CycleParity : Type 0
CycleParity = (g : Skeleton) (lead : Dart) (c d : SlabCell) → IsPlaneSkeleton g → SameFace g c d → Even (weight_above g (darts_on (dart_labels (darts g)) lead) c.slab c.place + weight_above g (darts_on (dart_labels (darts g)) lead) d.slab d.place)
