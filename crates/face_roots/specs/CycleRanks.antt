-- The ranks of faces, told by cycles: outer ones in their order, inner ones by what is below them.
use Rattle.std.specs.Prelude.{◌≡◌, ◌<◌, ℕ, suc, Bool, true, false, Option, Some, List, take, length, slice_index_or}
use Rattle.std.specs.List.{count_by, Contains}
use Rattle.plane_graphs.specs.Graph.{Edge}
use Rattle.slab_laws.specs.Skeleton.{Skeleton, IsPlaneSkeleton}
use Rattle.slab_laws.specs.Darts.{Dart, source, ahead}
use Rattle.slab_laws.specs.Meets.{SameFace}
use Rattle.slab_laws.specs.Cycles.{left_of_dart}
use Rattle.slab_laws.specs.Faces.{face_labels, face_of}
use Rattle.slab_laws.specs.Rotation.{dart_below}
use Rattle.slab_laws.specs.Rows.{least_dart_of, lead_list, no_dart}
use Rattle.slab_laws.specs.Subdivision.{subdivision, rank, first_cell}
use Rattle.edge_predicates.specs.FaceLaws.{cell_over}
use Rattle.edge_predicates.specs.Highest.{IsHighestBelow}
use Rattle.sound_changes.specs.NextLaws.{IsDartOf}
use Rattle.face_changes.specs.Kinds.{is_outer}
use Rattle.face_roots.specs.declared.ranks.Root.{Root}
use Rattle.face_roots.specs.declared.ranks.Root.TheVariants.{Outer, Outside, Above}

-- ---- in numbers
-- the root at a place
abbrev pub root_at : List Root → ℕ → Root
root_at roots c = slice_index_or roots c Outside

-- whether it is that of an outer cycle
abbrev pub is_outer_root : Root → Bool
is_outer_root Outer = true
is_outer_root Outside = false
is_outer_root (Above k) = false

-- it is the cycle at the place k
abbrev pub IsAboveOf : Root → ℕ → Type 0
IsAboveOf Outer k = ⊥
IsAboveOf Outside k = ⊥
IsAboveOf (Above j) k = j ≡ k

-- the rank that it tells: of an outer cycle the next one, of another that of its root
abbrev pub rank_of_root : Root → List ℕ → ℕ → ℕ
rank_of_root Outer ranks count = count
rank_of_root Outside ranks count = 0
rank_of_root (Above k) ranks count = slice_index_or ranks k 0

-- how many faces the first c cycles have, with the unbounded one
abbrev pub faces_before : List Root → ℕ → ℕ
faces_before roots c = suc (count_by is_outer_root (take c roots))

-- the rank of each cycle is the one that its root tells
pub record AreRankedBy (roots : List Root) (ranks : List ℕ) : Type 0 where
  pub counted : length ranks ≡ length roots
  pub each : (c : ℕ) → c < length roots → slice_index_or ranks c 0 ≡ rank_of_root (root_at roots c) ranks (faces_before roots c)

-- ---- of a graph
-- the least dart of the cycle at a place (CGAL manual: the halfedge that stands for a boundary cycle)
abbrev pub lead_at : Skeleton → ℕ → Dart
lead_at g c = slice_index_or (lead_list g) c no_dart

-- a root tells the face of the cycle c
abbrev pub IsRootOf : Skeleton → ℕ → Root → Type 0
IsRootOf g c Outer = is_outer g (lead_at g c) ≡ true
IsRootOf g c Outside = (is_outer g (lead_at g c) ≡ false) × SameFace g (left_of_dart g (lead_at g c)) first_cell
IsRootOf g c (Above k) = (is_outer g (lead_at g c) ≡ false) × (k < c) × SameFace g (left_of_dart g (lead_at g c)) (left_of_dart g (lead_at g k))

-- each cycle has one
pub record AreRootsOf (g : Skeleton) (roots : List Root) : Type 0 where
  pub counted : length roots ≡ length (lead_list g)
  pub each : (c : ℕ) → c < length roots → IsRootOf g c (root_at roots c)

-- a cycle's least dart goes forward; what is below an inner cycle's least vertex tells its face, and has a lesser cycle; the faces are the unbounded one and those of outer cycles, in their order; so ranks by roots are the ranks (this project)
pub record RanksByRoots : Type 0 where
  pub forward : (g : Skeleton) (d : Dart) → IsPlaneSkeleton g → IsDartOf g d → (least_dart_of g d).forward ≡ true
  pub face : (g : Skeleton) (d : Dart) (o : Option Edge) → IsPlaneSkeleton g → IsDartOf g d → is_outer g d ≡ false → IsHighestBelow (Contains g.edges) (source (least_dart_of g d)) o → SameFace g (left_of_dart g d) (cell_over g o)
  pub lesser : (g : Skeleton) (d : Dart) (e : Edge) → IsPlaneSkeleton g → IsDartOf g d → IsHighestBelow (Contains g.edges) (source (least_dart_of g d)) (Some e) → dart_below (least_dart_of g (ahead e)) (least_dart_of g d) ≡ true
  pub ranks : (g : Skeleton) (roots : List Root) (ranks : List ℕ) → IsPlaneSkeleton g → AreRootsOf g roots → AreRankedBy roots ranks → (c : ℕ) → c < length roots → slice_index_or ranks c 0 ≡ rank (subdivision g) (face_of (face_labels g) (left_of_dart g (lead_at g c)))
