-- The records and the history of a layer, and what a look down among its pieces finds.
use Rattle.std.specs.Prelude.{◌≡◌, ℕ, Option, None, IfSome}
use Rattle.exact_plane.specs.Point.{Point}
use Rattle.plane_graphs.specs.Ascending.{Member}
use Rattle.plane_graphs.specs.Fit.{IsFit}
use Rattle.plane_graphs.specs.Graph.{graph}
use Rattle.plane_graphs.specs.Piece.{Present}
use Rattle.plane_graphs.specs.Strands.{strands}
use Rattle.slab_laws.specs.declared.names.DartId.{DartId}
use Rattle.slab_laws.specs.declared.present.Piece.{Piece as PieceInMemory}
use Rattle.slab_laws.specs.Pieces.{piece_of}
use Rattle.slab_laws.specs.Sound.{IsGraphSound}
use Rattle.slab_laws.specs.View.{View}
use Rattle.arr_notes.specs.Curves.{AreCurvesOf}
use Rattle.arr_notes.specs.RecordGraph.{drawn_graph}
use Rattle.curve_history.specs.DrawnRecords.{IsPassed}
use Rattle.curve_history.specs.Past.{Past, curves_on, strands_on}
use Rattle.piece_location.specs.declared.highest.Highest.{Highest}
use Rattle.piece_location.specs.declared.highest.PieceBelow.{PieceBelow}
use Rattle.piece_location.specs.Heights.{IsPieceThrough}
use Rattle.piece_location.specs.Looks.{IsBelowIn, IsPassedBy, IsPieceNamed}

-- the history's pieces and the records' pins
abbrev pub present_of : View → Past → Present
present_of v p = record { pieces = p.pieces; pins = (drawn_graph v (curves_on p)).pins }

-- sound records and their history, of which the pieces are fit, draw the graph of the present, the sides of curves told apart (CGAL manual, arrangements with history)
pub record IsPastOf (v : View) (p : Past) : Type 0 where
  pub sound : IsGraphSound v
  pub curves : AreCurvesOf v (curves_on p)
  pub fit : IsFit (present_of v p)
  pub strands : drawn_graph v (strands_on p) ≡ graph (strands (present_of v p))

-- no piece goes through the point, and no piece is higher than this one, which the point sees; or it sees none
pub record IsBestOf (p : Past) (q : Point) (best : Option PieceBelow) : Type 0 where
  pub found : IfSome best (IsBelowIn p q)
  pub off : (r : ℕ × PieceInMemory) → Member r p.rows → IsPieceThrough q (piece_of r.1) → ⊥
  pub passed : (r : ℕ × PieceInMemory) → Member r p.rows → IsPassedBy q best (piece_of r.1)

-- a piece through the point was found, or the highest one that the point sees (Fogel, Halperin and Wein: vertical ray shooting)
pub record IsLookedDown (p : Past) (q : Point) (h : Highest) : Type 0 where
  pub through : IfSome h.through (IsPieceNamed p (IsPieceThrough q))
  pub best : h.through ≡ None → IsBestOf p q h.best

-- the dart goes along an edge of the piece of the name that has the point between its ends
abbrev pub IsEdgeOfName : View → Past → Point → ℕ → DartId → Type 0
IsEdgeOfName v p q n d = (k : PieceInMemory) × Member (n, k) p.rows × IsPassed v p k q d
