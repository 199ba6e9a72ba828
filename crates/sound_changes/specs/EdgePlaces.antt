-- Where an edge fits into a view, and what one more edge leaves as it was.
use Rattle.std.specs.Prelude.{◌≡◌, ◌≢◌, ◌⊎◌, ◌↔◌, pos, true, ◌∷◌, Option, Some, None}
use Rattle.std.specs.List.{Contains}
use Rattle.exact_plane.specs.Point.{Point}
use Rattle.exact_plane.specs.Line.{Line, side_of}
use Rattle.plane_graphs.specs.Ascending.{ascending}
use Rattle.plane_graphs.specs.Graph.{Edge, edge_cmp}
use Rattle.plane_graphs.specs.Line.{IsProperLine, precedes}
use Rattle.rotation_order.specs.RingOrder.{sooner_by}
use Rattle.slab_laws.specs.declared.names.DartId.{DartId}
use Rattle.slab_laws.specs.declared.names.VertexId.{VertexId}
use Rattle.slab_laws.specs.Darts.{Dart}
use Rattle.slab_laws.specs.Rotation.{earlier}
use Rattle.slab_laws.specs.Sound.{skeleton_of, edge_between, dart_in}
use Rattle.slab_laws.specs.View.{View, HasVertex, HasDart, IsOutOf, point_in, source_in, twin_in, line_in}
use Rattle.arr_notes.specs.AfterAround.{after_in}
use Rattle.rotation_order.specs.VertexRings.{IsBare}

-- the dart from one point to another (CGAL manual, halfedge)
abbrev pub dart_between : Point → Point → Dart
dart_between p q = record { edge = edge_between p q; forward = precedes p q }

-- a dart that goes the way of x out of w comes directly after this one clockwise; with none, w has no dart (CGAL manual, `insert_at_vertices`)
abbrev pub IsPlaceFor : View → VertexId → Option DartId → Dart → Type 0
IsPlaceFor v w None x = IsBare v w
IsPlaceFor v w (Some a) x = IsOutOf v w a × (sooner_by earlier (dart_in v a) x (dart_in v (after_in v a)) ≡ true)

-- two new names, two vertices, a line through both their points, and a place at each end (CGAL manual, `insert_at_vertices`)
pub record FitsAddedEdge (v : View) (d m : DartId) (u w : VertexId) (at_u at_w : Option DartId) (l : Line) : Type 0 where
  pub first_new : ¬ HasDart v d
  pub second_new : ¬ HasDart v m
  pub two_names : d ≢ m
  pub start : HasVertex v u
  pub end : HasVertex v w
  pub two_ends : u ≢ w
  pub line : IsProperLine l
  pub through_start : side_of l (point_in v u) ≡ pos 0
  pub through_end : side_of l (point_in v w) ≡ pos 0
  pub place_at_start : IsPlaceFor v u at_u (dart_between (point_in v u) (point_in v w))
  pub place_at_end : IsPlaceFor v w at_w (dart_between (point_in v w) (point_in v u))

-- both views say the same of a dart, but for which dart follows it (this project)
pub record IsKeptDart (g h : View) (d : DartId) : Type 0 where
  pub has : HasDart g d → HasDart h d
  pub had : HasDart h d → HasDart g d
  pub source : source_in h d ≡ source_in g d
  pub twin : twin_in h d ≡ twin_in g d
  pub line : line_in h d ≡ line_in g d

-- h has what g has, but for which dart follows which, and two more darts: d from u to another vertex w on the line l, and m its twin (this project)
pub record IsEdgeMore (g h : View) (d m : DartId) (u w : VertexId) (l : Line) : Type 0 where
  pub first_new : ¬ HasDart g d
  pub second_new : ¬ HasDart g m
  pub two_names : d ≢ m
  pub two_ends : u ≢ w
  pub first : HasDart h d
  pub second : HasDart h m
  pub source_first : source_in h d ≡ u
  pub source_second : source_in h m ≡ w
  pub twin_first : twin_in h d ≡ m
  pub twin_second : twin_in h m ≡ d
  pub line_first : line_in h d ≡ l
  pub line_second : line_in h m ≡ l
  pub vertices : h.vertices ≡ g.vertices
  pub others : (e : DartId) → e ≢ d → e ≢ m → IsKeptDart g h e

-- h draws the vertices and edges of g, and the edge e, which g doesn't draw (this project)
pub record IsDrawnMore (g h : View) (e : Edge) : Type 0 where
  pub vertices : (skeleton_of h).vertices ≡ (skeleton_of g).vertices
  pub fresh : ¬ Contains (skeleton_of g).edges e
  pub edges : (x : Edge) → Contains (skeleton_of h).edges x ↔ (Contains (skeleton_of g).edges x ⊎ (x ≡ e))
  pub listed : (skeleton_of h).edges ≡ ascending edge_cmp (e ∷ (skeleton_of g).edges)

-- g draws the vertices of h, and its edges without e (this project)
pub record IsDrawnLess (h g : View) (e : Edge) : Type 0 where
  pub vertices : (skeleton_of g).vertices ≡ (skeleton_of h).vertices
  pub edges : (x : Edge) → Contains (skeleton_of g).edges x ↔ (Contains (skeleton_of h).edges x × (x ≢ e))
  pub listed : (skeleton_of h).edges ≡ ascending edge_cmp (e ∷ (skeleton_of g).edges)
