-- When a view stands for the plane graph that its own points and darts draw.
use Rattle.std.specs.Prelude.{◌≡◌, ◌≢◌, pos, List, map, if◌then◌else◌}
use Rattle.exact_plane.specs.Point.{Point}
use Rattle.exact_plane.specs.PointOrder.{point_cmp}
use Rattle.plane_graphs.specs.Ascending.{ascending}
use Rattle.plane_graphs.specs.Line.{IsProper, IsProperLine, precedes}
use Rattle.plane_graphs.specs.Graph.{Edge, edge_cmp}
use Rattle.exact_plane.specs.Line.{side_of}
use Rattle.slab_laws.specs.declared.names.DartId.{DartId}
use Rattle.slab_laws.specs.declared.names.VertexId.{VertexId}
use Rattle.slab_laws.specs.Darts.{Dart, darts}
use Rattle.slab_laws.specs.Rotation.{next}
use Rattle.slab_laws.specs.Skeleton.{Skeleton, IsPlaneSkeleton}
use Rattle.slab_laws.specs.Tables.{names, NamesAscend}
use Rattle.slab_laws.specs.View.{View, dart_id, HasVertex, HasDart, point_in, source_in, twin_in, next_in, target_in, line_in}

-- the points of the view's vertices, ascending
abbrev pub points_of : View → List Point
points_of v = ascending point_cmp (map (λ r. r.1.point) v.vertices)

-- the edge between two points, the lesser end first
abbrev pub edge_between : Point → Point → Edge
edge_between p q = if precedes p q then record { low = p; high = q } else record { low = q; high = p }

-- the edge that a dart goes along
abbrev pub edge_in : View → DartId → Edge
edge_in v d = edge_between (point_in v (source_in v d)) (point_in v (target_in v d))

-- a dart by its two points
abbrev pub dart_in : View → DartId → Dart
dart_in v d = record { edge = edge_in v d; forward = precedes (point_in v (source_in v d)) (point_in v (target_in v d)) }

-- the graph that the view draws
abbrev pub skeleton_of : View → Skeleton
skeleton_of v = record { vertices = points_of v; edges = ascending edge_cmp (map (λ r. edge_in v (dart_id r.0)) v.darts) }

-- the names of vertices and of darts ascend, each once
pub record IsNamed (v : View) : Type 0 where
  pub vertices : NamesAscend (names v.vertices)
  pub darts : NamesAscend (names v.darts)

-- twin is its own inverse without fixed dart, and twins have one line
pub record IsTwinned (v : View) : Type 0 where
  pub has : (d : DartId) → HasDart v d → HasDart v (twin_in v d)
  pub back : (d : DartId) → HasDart v d → twin_in v (twin_in v d) ≡ d
  pub other : (d : DartId) → HasDart v d → twin_in v d ≢ d
  pub line : (d : DartId) → HasDart v d → line_in v (twin_in v d) ≡ line_in v d

-- a dart leaves a vertex, the next dart leaves where it ends, and next is one to one
pub record IsLinked (v : View) : Type 0 where
  pub source : (d : DartId) → HasDart v d → HasVertex v (source_in v d)
  pub has : (d : DartId) → HasDart v d → HasDart v (next_in v d)
  pub joins : (d : DartId) → HasDart v d → source_in v (next_in v d) ≡ target_in v d
  pub once : (d e : DartId) → HasDart v d → HasDart v e → next_in v d ≡ next_in v e → d ≡ e

-- vertices have points of the plane, different ones different points; a dart's three numbers are a line's, and the line holds both its ends
pub record IsDrawn (v : View) : Type 0 where
  pub proper : (u : VertexId) → HasVertex v u → IsProper (point_in v u)
  pub points : (u w : VertexId) → HasVertex v u → HasVertex v w → point_in v u ≡ point_in v w → u ≡ w
  pub line : (d : DartId) → HasDart v d → IsProperLine (line_in v d)
  pub starts : (d : DartId) → HasDart v d → side_of (line_in v d) (point_in v (source_in v d)) ≡ pos 0
  pub ends : (d : DartId) → HasDart v d → side_of (line_in v d) (point_in v (target_in v d)) ≡ pos 0

-- two darts have different points, and the next dart is the first clockwise after the twin among all
pub record IsTurned (v : View) : Type 0 where
  pub differ : (d e : DartId) → HasDart v d → HasDart v e → dart_in v d ≡ dart_in v e → d ≡ e
  pub turns : (d : DartId) → HasDart v d → dart_in v (next_in v d) ≡ next (darts (skeleton_of v)) (dart_in v d)

-- the graph part: what the view draws is plane, and the records stand for it
pub record IsGraphSound (v : View) : Type 0 where
  pub named : IsNamed v
  pub twinned : IsTwinned v
  pub linked : IsLinked v
  pub drawn : IsDrawn v
  pub turned : IsTurned v
  pub plane : IsPlaneSkeleton (skeleton_of v)
