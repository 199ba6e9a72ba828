-- What the lists of an overlay in memory hold.
use Rattle.std.specs.Prelude.{◌≡◌, length}
use Rattle.plane_graphs.specs.Graph.{edges}
use Rattle.subdivision_rows.specs.OverlayInMemory.{Overlaid, AreRowsOf}
use Rattle.subdivision_rows.specs.declared.both.Both.TheInside.{Inside}

-- the overlay that the lists are of
abbrev pub overlaid_of : Inside → Overlaid
overlaid_of b = record { drawing = b.rows; red = b.red; blue = b.blue; red_pieces = b.red_pieces.items; blue_pieces = b.blue_pieces.items }

-- what it tells of both layers is of its edges and faces
pub record IsSoundOverlay (b : Inside) : Type 0 where
  pub red : AreRowsOf b.rows b.red
  pub blue : AreRowsOf b.rows b.blue
  pub red_pieces : length b.red_pieces.items ≡ length (edges b.rows.graph)
  pub blue_pieces : length b.blue_pieces.items ≡ length (edges b.rows.graph)
