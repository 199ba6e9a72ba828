-- What the writers do to single rows (this project).
use Rattle.std.specs.Prelude.{ℕ, Option}
use Rattle.curve_pieces.specs.declared.row.Row.{Row}
use Rattle.slab_laws.specs.declared.present.Piece.{Piece}

-- a row with another one after it, or before it, in the order of all pieces
abbrev pub row_followed : Option ℕ → Row → Row
row_followed after r = record { piece = r.piece; order = record { before = r.order.before; after = after }; curve = r.curve }

abbrev pub row_led : Option ℕ → Row → Row
row_led before r = record { piece = r.piece; order = record { before = before; after = r.order.after }; curve = r.curve }

-- the same in the list of its curve
abbrev pub row_next : Option ℕ → Row → Row
row_next next r = record { piece = r.piece; order = r.order; curve = record { before = r.curve.before; after = next } }

abbrev pub row_prior : Option ℕ → Row → Row
row_prior prior r = record { piece = r.piece; order = r.order; curve = record { before = prior; after = r.curve.after } }

-- a row with another piece
abbrev pub row_with : Piece → Row → Row
row_with piece r = record { piece = piece; order = r.order; curve = r.curve }
