-- The model's marks of those in memory.
use Rattle.std.specs.Prelude.{◌≡◌, List, ◌++◌, map, filter}
use Rattle.exact_plane.specs.Point.{Point}
use Rattle.plane_graphs.specs.Graph.{Mark, chain}
use Rattle.plane_graphs.specs.Piece.{on}
use Rattle.slab_laws.specs.declared.present.Piece.{Piece as PieceInMemory}
use Rattle.slab_laws.specs.Pieces.{piece_of}
use Rattle.present_graphs.specs.declared.marks.Mark.{Mark as MarkInMemory}

-- the same edge, with the curve's number
abbrev pub mark_of : MarkInMemory → Mark
mark_of m = record { low = m.low; high = m.high; curve = m.curve.0 }

-- the marks along a piece: each of the points on it, with the next one
abbrev pub marks_along : PieceInMemory → List Point → List Mark
marks_along k ps = chain k.curve.0 (filter (on (piece_of k)) ps)

-- the marks were appended to those that were there
abbrev pub HaveCome : List Mark → List MarkInMemory → List MarkInMemory → Type 0
HaveCome marks old new = map mark_of new ≡ map mark_of old ++ marks
