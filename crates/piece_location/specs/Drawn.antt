-- Records that draw the graph of a present, and their edges along its pieces.
use Rattle.std.specs.Prelude.{◌≡◌, ◌≢◌, [], true}
use Rattle.exact_plane.specs.Point.{Point}
use Rattle.plane_graphs.specs.Ascending.{Member}
use Rattle.plane_graphs.specs.Fit.{IsFit}
use Rattle.plane_graphs.specs.Graph.{graph}
use Rattle.plane_graphs.specs.Line.{precedes}
use Rattle.plane_graphs.specs.Piece.{Piece, Present}
use Rattle.plane_graphs.specs.Strands.{HasOneSide}
use Rattle.slab_laws.specs.declared.names.DartId.{DartId}
use Rattle.slab_laws.specs.Sound.{IsGraphSound}
use Rattle.slab_laws.specs.View.{View, point_in, source_in, target_in}
use Rattle.arr_notes.specs.Curves.{Curves, IsForward}
use Rattle.arr_notes.specs.RecordGraph.{drawn_graph}

-- sound records, with these curves of their edges, draw the graph of a fit present whose curves have one side each (CGAL manual, arrangements with history)
pub record IsDrawnFrom (v : View) (h : Curves) (p : Present) : Type 0 where
  pub sound : IsGraphSound v
  pub some : (d : DartId) → IsForward v d → h d ≢ []
  pub fit : IsFit p
  pub one_side : HasOneSide p.pieces
  pub stands : drawn_graph v h ≡ graph p

-- the dart goes forward along an edge of the piece's curve that has the point between its ends (this project)
pub record IsAlongPiece (v : View) (h : Curves) (k : Piece) (q : Point) (d : DartId) : Type 0 where
  pub forward : IsForward v d
  pub runs : Member k.curve (h d)
  pub from : precedes (point_in v (source_in v d)) q ≡ true
  pub to : precedes q (point_in v (target_in v d)) ≡ true
