-- The places of darts by their sources, those of one source clockwise.
use Rattle.std.specs.Prelude.{◌≡◌, ◌≢◌, ◌+◌, ◌<◌, ◌≤◌, ℕ, true, false, List, length, slice_index_or, Option, None, Some}
use Rattle.slab_laws.specs.Darts.{Dart, source}
use Rattle.slab_laws.specs.Rotation.{earlier}
use Rattle.slab_laws.specs.Rows.{dart_list, dart_at, vertex_place}
use Rattle.slab_laws.specs.Skeleton.{Skeleton}
use Rattle.slab_laws.specs.declared.rows.ListedDart.{ListedDart}
use Rattle.dart_orbits.specs.DartRows.{place_after}
use Rattle.dart_orbits.specs.Ways.{row_in}

-- the dart whose place stands at i
abbrev pub dart_placed : Skeleton → List ℕ → ℕ → Dart
dart_placed g ps i = dart_at g (slice_index_or ps i 0)

-- all darts are there, by the places of their sources, those of one source clockwise from straight down (CGAL manual, circulator around a vertex)
pub record AreAround (g : Skeleton) (ps : List ℕ) : Type 0 where
  pub within : (i : ℕ) → i < length ps → slice_index_or ps i 0 < length (dart_list g)
  pub all : (k : ℕ) → k < length (dart_list g) → (i : ℕ) × (i < length ps) × (slice_index_or ps i 0 ≡ k)
  pub sources : (i k : ℕ) → i < k → k < length ps → vertex_place g (source (dart_placed g ps i)) ≤ vertex_place g (source (dart_placed g ps k))
  pub turns : (i k : ℕ) → i < k → k < length ps → source (dart_placed g ps i) ≡ source (dart_placed g ps k) → earlier (dart_placed g ps i) (dart_placed g ps k) ≡ true

-- ---- by rows
-- the source of the dart whose place stands at i
abbrev pub source_placed : List ListedDart → List ℕ → ℕ → ℕ
source_placed rows ps i = (row_in rows (slice_index_or ps i 0)).source

-- their sources don't fall
abbrev pub AreBySource : List ListedDart → List ℕ → Type 0
AreBySource rows ps = (i k : ℕ) → i < k → k < length ps → source_placed rows ps i ≤ source_placed rows ps k

-- what stands after i, where it has the same source (this project)
abbrev pub IsNextBeside : List ListedDart → List ℕ → ℕ → Option ℕ → Type 0
IsNextBeside rows ps i None = i + 1 < length ps → source_placed rows ps (i + 1) ≢ source_placed rows ps i
IsNextBeside rows ps i (Some k) = (i + 1 < length ps) × (k ≡ slice_index_or ps (i + 1) 0) × (source_placed rows ps (i + 1) ≡ source_placed rows ps i)

-- what stands first of those with the source v (this project)
pub record IsFirstPlaced (rows : List ListedDart) (ps : List ℕ) (v r : ℕ) : Type 0 where
  pub at : ℕ
  pub within : at < length ps
  pub there : r ≡ slice_index_or ps at 0
  pub same : source_placed rows ps at ≡ v
  pub first : (j : ℕ) → j < length ps → source_placed rows ps j ≡ v → at ≤ j

-- the dart at r is the first one clockwise, from straight down on, out of the source of the dart at k (CGAL manual, circulator around a vertex)
pub record IsFirstAround (g : Skeleton) (k r : ℕ) : Type 0 where
  pub within : r < length (dart_list g)
  pub same : source (dart_at g r) ≡ source (dart_at g k)
  pub first : (j : ℕ) → j < length (dart_list g) → source (dart_at g j) ≡ source (dart_at g k) → earlier (dart_at g j) (dart_at g r) ≡ false

-- of each dart the one that follows it clockwise round its source
pub record AreAfters (g : Skeleton) (vs : List ℕ) : Type 0 where
  pub counted : length vs ≡ length (dart_list g)
  pub each : (k : ℕ) → k < length (dart_list g) → slice_index_or vs k 0 ≡ place_after g k
