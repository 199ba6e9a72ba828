-- What a caller sees of pieces: each with its name, in the order in which they came.
use Rattle.std.specs.Prelude.{◌≡◌, ◌==◌, ℕ, Bool, List, ◌∷◌, ◌++◌, map, not}
use Rattle.std.specs.List.{filter}
use Rattle.plane_graphs.specs.Ascending.{Member}
use Rattle.slab_laws.specs.Tables.{names}
use Rattle.slab_laws.specs.declared.present.Piece.{Piece}
use Rattle.box_tree.specs.declared.entry.Entry.{Entry}
use Rattle.exact_plane.specs.Boxes.{box_between}

-- the pieces by name, in their order; how many more fit with no memory; how many fit in all; and whether they have an index over their boxes (this project)
pub record Rowed : Type 0 where
  pub rows : List (ℕ × Piece)
  pub spare : ℕ
  pub capacity : ℕ
  pub indexed : Bool

-- what the index has of a piece: its name, and the box of the part
abbrev pub entry_of : ℕ × Piece → Entry
entry_of r = record { name = r.0; bounds = box_between r.1.from r.1.to }

abbrev pub entries_of : List (ℕ × Piece) → List Entry
entries_of rs = map entry_of rs

-- the name is that of a piece
abbrev pub HasPiece : Rowed → ℕ → Type 0
HasPiece r n = Member n (names r.rows)

-- the pieces, in their order
abbrev pub items : Rowed → List Piece
items r = map (λ e. e.1) r.rows

-- the piece of a name goes, and all others stay as they are
abbrev pub LosesRow : Rowed → Rowed → ℕ → Type 0
LosesRow old new n = (before after : List (ℕ × Piece)) (k : Piece) → old.rows ≡ before ++ (n, k) ∷ after → new.rows ≡ before ++ after

-- the name has another piece now, in its place
abbrev pub SetsPiece : Rowed → Rowed → ℕ → Piece → Type 0
SetsPiece old new n piece = (before after : List (ℕ × Piece)) (k : Piece) → old.rows ≡ before ++ (n, k) ∷ after → new.rows ≡ before ++ (n, piece) ∷ after

-- a piece more stands directly after that of a name
abbrev pub PutsAfter : Rowed → Rowed → ℕ → ℕ → Piece → Type 0
PutsAfter old new place n piece = (before after : List (ℕ × Piece)) (k : Piece) → old.rows ≡ before ++ (place, k) ∷ after → new.rows ≡ before ++ (place, k) ∷ (n, piece) ∷ after

-- the pieces of a curve go, and all others stay as they are
abbrev pub LosesCurve : Rowed → Rowed → ℕ → Type 0
LosesCurve old new curve = new.rows ≡ filter (λ r. not (r.1.curve.0 == curve)) old.rows
