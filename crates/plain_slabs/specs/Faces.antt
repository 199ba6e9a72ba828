-- Steps in making faces: the cycle of a least dart, and faces that are added one by one.
use Rattle.std.specs.Prelude.{◌≡◌, ℕ, List, [], ◌∷◌, ◌++◌, Bool, ◌||◌, cond}
use Rattle.std.specs.List.{list_any, position_or_len}
use Rattle.exact_plane.specs.Point.{Point}
use Rattle.exact_plane.specs.Span.{Span}
use Rattle.std.specs.BTreeSet.{BTreeSet, contains}
use Rattle.plain_slabs.specs.CellLabels.{cell_cmp}
use Rattle.slab_laws.specs.declared.slab_cell.SlabCell.{SlabCell}
use Rattle.slab_laws.specs.declared.classes.Label.{Label}
use Rattle.slab_laws.specs.declared.rows.CycleRow.{CycleRow}
use Rattle.slab_laws.specs.Classes.{class_of}
use Rattle.slab_laws.specs.Cycles.{dart_labels, odd, left_of_dart}
use Rattle.slab_laws.specs.Darts.{darts}
use Rattle.slab_laws.specs.Faces.{same_cell, face_labels, face_of}
use Rattle.slab_laws.specs.Kinds.{kind_by}
use Rattle.slab_laws.specs.Rows.{dart_at}
use Rattle.slab_laws.specs.Skeleton.{Skeleton, same_point}
use Rattle.slab_laws.specs.Slabs.{left_cell}
use Rattle.slab_laws.specs.Subdivision.{has_dart}

-- the labels tell the least cell of every cell's face
abbrev pub AreLabelsOf : Skeleton → List (Label SlabCell) → Type 0
AreLabelsOf g ls = (c : SlabCell) → class_of same_cell ls c ≡ face_of (face_labels g) c

-- the cycle of the least dart at a place
abbrev pub lead_row : Skeleton → ℕ → CycleRow
lead_row g k = record { lead = k; kind = kind_by (odd g (dart_labels (darts g)) (dart_at g k) (left_of_dart g (dart_at g k))); face = face_of (face_labels g) (left_of_dart g (dart_at g k)) }

-- the point is an end of one of the edges
abbrev pub is_end : List Span → Point → Bool
is_end ss p = list_any (λ s. same_point s.lower p || same_point s.upper p) ss

-- the rank among the faces of the face round a vertex without darts; of another vertex, 0
abbrev pub rank_round : Skeleton → List SlabCell → Point → ℕ
rank_round g fs p = cond (has_dart g p) 0 (position_or_len (same_cell (face_of (face_labels g) (left_cell g p))) fs)

-- the faces with one more at their end, unless it is there
abbrev pub added : List SlabCell → SlabCell → List SlabCell
added fs f = cond (list_any (same_cell f) fs) fs (fs ++ f ∷ [])

-- the set holds the cells of the list
abbrev pub AreSeen : BTreeSet SlabCell → List SlabCell → Type 0
AreSeen seen fs = (c : SlabCell) → contains cell_cmp seen c ≡ list_any (same_cell c) fs
