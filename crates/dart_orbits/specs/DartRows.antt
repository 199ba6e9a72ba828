-- Darts by their rows.
use Rattle.std.specs.Prelude.{ℕ, List, [], ◌∷◌, not, map, slice_index_or}
use Rattle.plane_graphs.specs.Graph.{Edge}
use Rattle.slab_laws.specs.declared.rows.ListedDart.{ListedDart}
use Rattle.slab_laws.specs.Skeleton.{Skeleton}
use Rattle.slab_laws.specs.Darts.{Dart, source, darts, ahead, back}
use Rattle.slab_laws.specs.Rotation.{after, ring}
use Rattle.slab_laws.specs.Rows.{no_dart, dart_at, dart_place, dart_row}

-- the rows of both darts of an edge (this project)
abbrev pub edge_rows : Skeleton → Edge → List ListedDart
edge_rows g e = dart_row g (ahead e) ∷ dart_row g (back e) ∷ []

-- the dart that a row names, by its edge's place and its way along it (this project)
abbrev pub row_dart : List Edge → ListedDart → Dart
row_dart es r = record { edge = slice_index_or es r.edge no_dart.edge; forward = r.forward }

-- the row of the twin: the same edge, the other way (this project)
abbrev pub twin_row : ListedDart → ListedDart
twin_row r = record { source = r.target; target = r.source; edge = r.edge; forward = not r.forward }

-- the rows of the darts that go forward, in the order of their edges (this project)
abbrev pub ahead_rows : Skeleton → List ListedDart
ahead_rows g = map (λ e. dart_row g (ahead e)) g.edges

-- the place of the dart that is met first on the way clockwise round its source from just after the dart at a place (this project)
abbrev pub place_after : Skeleton → ℕ → ℕ
place_after g k = let d : Dart = dart_at g k in dart_place g (after d (ring (darts g) (source d)))
