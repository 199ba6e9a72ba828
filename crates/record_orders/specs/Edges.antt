-- Edges of records by the points of their ends.
use Rattle.std.specs.Prelude.{◌≡◌}
use Rattle.exact_plane.specs.Point.{Point}
use Rattle.plane_graphs.specs.Graph.{Edge}
use Rattle.slab_laws.specs.declared.names.DartId.{DartId}
use Rattle.slab_laws.specs.Sound.{edge_in}
use Rattle.slab_laws.specs.View.{View, HasDart, point_in, source_in, target_in}
use Rattle.arr_notes.specs.Curves.{IsForward}
use Rattle.record_orders.specs.declared.darts.DartKey.{DartKey}

-- the dart runs from p to q (CGAL manual, source and target of a halfedge)
pub record RunsBetween (v : View) (p q : Point) (d : DartId) : Type 0 where
  pub has : HasDart v d
  pub starts : point_in v (source_in v d) ≡ p
  pub ends : point_in v (target_in v d) ≡ q

-- the dart is the edge's, from its lower to its upper end (CGAL manual, direction of a halfedge)
pub record IsDartAlong (v : View) (e : Edge) (d : DartId) : Type 0 where
  pub forward : IsForward v d
  pub edge : edge_in v d ≡ e

-- the edge with a lower and an upper end (CGAL manual, a pair of twin halfedges)
abbrev pub edge_of : Point × Point → Edge
edge_of p = record { low = p.0; high = p.1 }

-- the edge of a dart with its ends, which runs from the lower to the upper one (this project)
abbrev pub edge_of_key : DartKey → Edge
edge_of_key k = record { low = k.source; high = k.target }
