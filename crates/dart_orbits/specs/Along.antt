-- The places of darts, told by the places of their edges.
use Rattle.std.specs.Prelude.{◌≡◌, ◌<◌, ℕ, Bool, List, length, slice_index_or}
use Rattle.slab_laws.specs.declared.rows.ListedDart.{ListedDart}
use Rattle.dart_orbits.specs.Ways.{row_in}

-- the edges of rows have lower places than this
abbrev pub AreEdgesBelow : ℕ → List ListedDart → Type 0
AreEdgesBelow n rows = (k : ℕ) → k < length rows → (row_in rows k).edge < n

-- no edge is in two rows in one direction
abbrev pub AreOnceEach : List ListedDart → Type 0
AreOnceEach rows = (j k : ℕ) → j < k → k < length rows → (row_in rows j).edge ≡ (row_in rows k).edge → (row_in rows j).forward ≡ (row_in rows k).forward → ⊥

-- of the first n rows each one in this direction has its place at that of its edge (this project)
abbrev pub ArePlacesAlong : List ListedDart → Bool → ℕ → List ℕ → Type 0
ArePlacesAlong rows f n places = (k : ℕ) → k < n → k < length rows → (row_in rows k).forward ≡ f → slice_index_or places (row_in rows k).edge 0 ≡ k
