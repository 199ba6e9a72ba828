-- The two darts along an edge, of which one goes forward.
use Rattle.std.specs.Prelude.{◌≡◌}
use Rattle.slab_laws.specs.declared.names.DartId.{DartId}
use Rattle.slab_laws.specs.Sound.{edge_in}
use Rattle.slab_laws.specs.View.{View, line_in}
use Rattle.arr_notes.specs.Curves.{IsForward}

-- the dart goes forward along the edge of another one (CGAL manual, direction of a halfedge)
pub record IsForwardOf (v : View) (d r : DartId) : Type 0 where
  pub forward : IsForward v r
  pub edge : edge_in v r ≡ edge_in v d
  pub line : line_in v r ≡ line_in v d
