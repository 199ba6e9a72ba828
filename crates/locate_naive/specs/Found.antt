-- What is found by a look at all vertices, and then at the darts out of one.
use Rattle.std.specs.Prelude.{Option, MatchOption}
use Rattle.exact_plane.specs.Point.{Point}
use Rattle.plane_graphs.specs.Graph.{Edge}
use Rattle.slab_laws.specs.declared.names.DartId.{DartId}
use Rattle.slab_laws.specs.View.{View}
use Rattle.record_orders.specs.Edges.{RunsBetween, IsDartAlong}

-- a dart from one point to the other, or none where no edge runs between them (CGAL manual, source and target of a halfedge)
abbrev pub IsDartBetween : View → Point → Point → Option DartId → Type 0
IsDartBetween v p q found = MatchOption found ((d : DartId) → RunsBetween v p q d → ⊥) (RunsBetween v p q)

-- the dart along an edge from its lower to its upper end, or none where the edge isn't there (CGAL manual, direction of a halfedge)
abbrev pub IsDartOfEdge : View → Edge → Option DartId → Type 0
IsDartOfEdge v e found = MatchOption found ((d : DartId) → IsDartAlong v e d → ⊥) (IsDartAlong v e)
