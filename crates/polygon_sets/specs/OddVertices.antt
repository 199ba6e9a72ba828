-- Vertices on whose edges the pieces are odd in number.
use Rattle.std.specs.Prelude.{◌≡◌, ◌<◌, ◌%◌, ◌==◌, ℕ, Bool, true, false, cond, List, slice_index_or, Option, None, Some}
use Rattle.std.specs.List.{sum_by}
use lib.Dec.{eqb}
use Rattle.slab_laws.specs.declared.rows.ListedDart.{ListedDart}

-- what stands where there is no dart
abbrev pub no_row : ListedDart
no_row = record { source = 0; target = 0; edge = 0; forward = false }

-- the dart at a place
abbrev pub row_at : List ListedDart → ℕ → ListedDart
row_at rows k = slice_index_or rows k no_row

-- how many pieces the dart has at the vertex, if it goes out of it
abbrev pub out_pieces : List ℕ → ℕ → ListedDart → ℕ
out_pieces pieces v r = cond (eqb r.source v) (slice_index_or pieces r.edge 0) 0

-- the pieces of the darts out of a vertex are odd in number (this project)
abbrev pub is_odd_at : List ListedDart → List ℕ → ℕ → Bool
is_odd_at rows pieces v = sum_by (out_pieces pieces v) rows % 2 == 1

-- the first such vertex, or none
abbrev pub IsFirstOdd : List ListedDart → List ℕ → Option ℕ → Type 0
IsFirstOdd rows pieces None = (v : ℕ) → is_odd_at rows pieces v ≡ false
IsFirstOdd rows pieces (Some v) = (is_odd_at rows pieces v ≡ true) × ((u : ℕ) → u < v → is_odd_at rows pieces u ≡ false)
