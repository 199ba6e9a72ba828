-- Records beside the history of their curves.
use Rattle.std.specs.Prelude.{◌≡◌, ◌&&◌, Bool, true, List, map, if◌then◌else◌}
use Rattle.exact_plane.specs.Point.{Point}
use Rattle.plane_graphs.specs.Ascending.{Member}
use Rattle.plane_graphs.specs.Line.{precedes}
use Rattle.plane_graphs.specs.Strands.{strand}
use Rattle.slab_laws.specs.declared.names.CurveId.{CurveId}
use Rattle.slab_laws.specs.declared.names.DartId.{DartId}
use Rattle.slab_laws.specs.declared.present.Piece.{Piece as PieceInMemory}
use Rattle.slab_laws.specs.View.{View, point_in, source_in, target_in, twin_in, curve_id}
use Rattle.arr_notes.specs.Curves.{is_forward, AreCurvesOf, IsDirected, IsForward}
use Rattle.curve_history.specs.Past.{Past, curves_on, strands_on}

-- of two twins the one from the lower to the upper end (this project)
abbrev pub forward_of : View → DartId → DartId
forward_of v d = if is_forward v d then d else twin_in v d

-- the curves along a dart's edge (CGAL manual, originating curves)
abbrev pub curves_in : View → Past → DartId → List CurveId
curves_in v p d = map curve_id (curves_on p (forward_of v d))

-- the history's edges are the records' (this project)
pub record IsTold (v : View) (p : Past) : Type 0 where
  pub curves : AreCurvesOf v (curves_on p)
  pub directed : IsDirected v

-- records, and what a caller sees of the history beside them
pub record DrawnRecords (R : Type 0) : Type 0 where
  pub records : R
  pub history : Past

-- the point is between the ends of the dart, in point order (this project: the leant vertical meets the edge)
abbrev pub passes : View → DartId → Point → Bool
passes v d p = precedes (point_in v (source_in v d)) p && precedes p (point_in v (target_in v d))

-- the dart goes from the lower to the upper end of an edge along which the piece's side of its curve runs, and the point is between the two (this project)
pub record IsPassed (v : View) (h : Past) (k : PieceInMemory) (p : Point) (d : DartId) : Type 0 where
  pub forward : IsForward v d
  pub runs : Member (strand k.curve.0 k.side) (strands_on h d)
  pub from : precedes (point_in v (source_in v d)) p ≡ true
  pub to : precedes p (point_in v (target_in v d)) ≡ true
