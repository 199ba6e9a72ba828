-- What is known of the pieces that an index shows.
use Rattle.std.specs.Prelude.{◌≡◌, ℕ, false}
use Rattle.plane_graphs.specs.Ascending.{Member}
use Rattle.slab_laws.specs.Tables.{names}
use Rattle.box_tree.specs.declared.entry.Entry.{Entry}
use Rattle.piece_zone.specs.declared.windows.Shown.{Shown}

-- the entry is of a piece
abbrev pub IsOfPiece : Shown → Entry → Type 0
IsOfPiece k e = Member e.name (names k.history.now.rows)

-- the history stays, and the names that were shown are those of pieces
pub record MayShow (k l : Shown) : Type 0 where
  pub history : l.history.now ≡ k.history.now
  pub named : (n : ℕ) → Member n l.names.items → Member n (names l.history.now.rows)

-- the entry's name was kept, unless memory was wanting
abbrev pub HasShown : Shown → Entry → Type 0
HasShown l e = l.failed ≡ false → Member e.name l.names.items
