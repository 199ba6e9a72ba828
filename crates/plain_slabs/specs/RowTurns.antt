-- Turns from dart to dart, by their rows.
use Rattle.std.specs.Prelude.{List, Bool, map}
use Rattle.exact_plane.specs.Span.{Span}
use Rattle.plane_graphs.specs.Graph.{Edge}
use Rattle.slab_laws.specs.declared.rows.ListedDart.{ListedDart}
use Rattle.slab_laws.specs.SpansDrawn.{edge_of}
use Rattle.dart_orbits.specs.DartRows.{row_dart}
use Rattle.dart_orbits.specs.Turns.{comes_first}

-- of the darts of two rows, the one that is met first on the way clockwise from just after the dart of the first row (this project)
abbrev pub row_comes_first : List Span → ListedDart → ListedDart → ListedDart → Bool
row_comes_first ss from r other =
    let es : List Edge = map edge_of ss in
    comes_first (row_dart es from) (row_dart es r) (row_dart es other)
