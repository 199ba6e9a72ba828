-- What the graph of records holds, and that it is plane.
use Rattle.std.specs.Prelude.{◌≡◌, ◌↔◌, true}
use Rattle.exact_plane.specs.Point.{Point}
use Rattle.plane_graphs.specs.Ascending.{Member}
use Rattle.plane_graphs.specs.Graph.{Mark, curves}
use Rattle.plane_graphs.specs.Plane.{IsPlane}
use Rattle.slab_laws.specs.declared.names.DartId.{DartId}
use Rattle.slab_laws.specs.declared.names.VertexId.{VertexId}
use Rattle.slab_laws.specs.Sound.{IsGraphSound, skeleton_of}
use Rattle.slab_laws.specs.Text.{skeleton}
use Rattle.slab_laws.specs.View.{View, HasVertex, point_in, pinned_in, source_in, target_in}
use Rattle.arr_notes.specs.Curves.{Curves, IsForward, IsDirected, AreCurvesOf}
use Rattle.arr_notes.specs.RecordGraph.{drawn_graph}

-- the vertex stands at the point
pub record IsVertexAt (v : View) (p : Point) (w : VertexId) : Type 0 where
  pub has : HasVertex v w
  pub at : point_in v w ≡ p

-- the mark is one of the dart's edge
pub record IsMarkOf (v : View) (h : Curves) (m : Mark) (d : DartId) : Type 0 where
  pub forward : IsForward v d
  pub low : point_in v (source_in v d) ≡ m.low
  pub high : point_in v (target_in v d) ≡ m.high
  pub curve : Member m.curve (h d)

-- the points, marks and pins of the graph are those of the records' vertices and forward darts
pub record GraphHolds (v : View) (h : Curves) : Type 0 where
  pub points : (p : Point) → Member p (drawn_graph v h).points ↔ ((w : VertexId) × IsVertexAt v p w)
  pub marks : (m : Mark) → Member m (drawn_graph v h).marks ↔ ((d : DartId) × IsMarkOf v h m d)
  pub pins : (p : Point) → Member p (drawn_graph v h).pins ↔ ((w : VertexId) × IsVertexAt v p w × (pinned_in v w ≡ true))

-- and so for every view whose names ascend
abbrev pub GraphsHold : Type 0
GraphsHold = (v : View) (h : Curves) → IsGraphSound v → GraphHolds v h

-- the vertices and edges of the graph are those that the records draw
abbrev pub GraphsAreDrawn : Type 0
GraphsAreDrawn = (v : View) (h : Curves) → IsGraphSound v → AreCurvesOf v h → skeleton (drawn_graph v h) ≡ skeleton_of v

-- the graph of sound records is plane
abbrev pub GraphsArePlane : Type 0
GraphsArePlane = (v : View) (h : Curves) → IsGraphSound v → AreCurvesOf v h → IsPlane (drawn_graph v h)

-- the curves of an edge in the graph are those of its forward dart
abbrev pub CurvesOfDarts : Type 0
CurvesOfDarts = (v : View) (h : Curves) (d : DartId) → IsGraphSound v → AreCurvesOf v h → IsForward v d → curves (drawn_graph v h) (point_in v (source_in v d)) (point_in v (target_in v d)) ≡ h d

-- of two twins of a sound view one is forward
abbrev pub TwinsAreDirected : Type 0
TwinsAreDirected = (v : View) → IsGraphSound v → IsDirected v
