-- What the cycles of a plane skeleton have to do with its faces.
use Rattle.std.specs.Prelude.{◌≡◌, ◌+◌, Bool, cond, ◌&&◌, true, false}
use Rattle.std.specs.List.{Contains, count_by}
use Rattle.plane_graphs.specs.Graph.{Edge}
use Rattle.slab_laws.specs.declared.slab_cell.SlabCell.{SlabCell}
use Rattle.slab_laws.specs.Skeleton.{Skeleton, left_of, IsPlaneSkeleton}
use Rattle.slab_laws.specs.Slabs.{top_cell}
use Rattle.slab_laws.specs.Weights.{Even, weight_above}
use Rattle.slab_laws.specs.Darts.{Dart, darts, source, target, cell_of}
use Rattle.slab_laws.specs.Rotation.{next}
use Rattle.slab_laws.specs.Cycles.{dart_labels, darts_on, left_of_dart}
use Rattle.slab_laws.specs.Faces.{face_labels, face_of, same_cell}
use Rattle.slab_laws.specs.Subdivision.{Cycle, subdivision}

-- the next dart starts where the dart ends
abbrev pub NextStartsThere : Type 0
NextStartsThere = (g : Skeleton) (d : Dart) → IsPlaneSkeleton g → Contains g.edges d.edge → source (next (darts g) d) ≡ target d

-- the parities of a cycle on both sides of an edge differ where the edge has one dart of the cycle, and else are the same
abbrev pub CycleAcrossEdge : Type 0
CycleAcrossEdge =
    (g : Skeleton) (lead : Dart) (e : Edge) → IsPlaneSkeleton g → Contains g.edges e → Even (weight_above g (darts_on (dart_labels (darts g)) lead) (cell_of g e true).slab (cell_of g e true).place + weight_above g (darts_on (dart_labels (darts g)) lead) (cell_of g e false).slab (cell_of g e false).place + darts_on (dart_labels (darts g)) lead e)

-- the cycle bounds the face f from outside
abbrev pub bounds : SlabCell → Cycle → Bool
bounds f c = c.outer && same_cell c.face f

-- a bounded face has an odd number of outer cycles, the unbounded one an even number: for the face of any dart
-- whose edge isn't vertical
abbrev pub OuterCyclesOfFaces : Type 0
OuterCyclesOfFaces =
    (g : Skeleton) (d : Dart) → IsPlaneSkeleton g → Contains g.edges d.edge → left_of d.edge.low d.edge.high ≡ true → Even (count_by (bounds (face_of (face_labels g) (left_of_dart g d))) (subdivision g).cycles + 1 + cond (same_cell (face_of (face_labels g) (top_cell g 0)) (face_of (face_labels g) (left_of_dart g d))) 1 0)
