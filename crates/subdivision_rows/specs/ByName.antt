-- The pinned points among vertices that are read by name, and the numbers of curves.
use Rattle.std.specs.Prelude.{List, map, filter}
use Rattle.exact_plane.specs.Point.{Point}
use Rattle.slab_laws.specs.declared.names.CurveId.{CurveId}
use Rattle.slab_laws.specs.declared.names.DartId.{DartId}
use Rattle.slab_laws.specs.View.{View, pinned_in}
use Rattle.arr_notes.specs.Curves.{Curves}
use Rattle.record_orders.specs.declared.vertices.VertexKey.{VertexKey}

-- the numbers of the curves along each dart's edge
abbrev pub numbers_of : (DartId → List CurveId) → Curves
numbers_of c d = map (λ x. x.0) (c d)

-- the points of vertices
abbrev pub points_at : List VertexKey → List Point
points_at ks = map (λ k. k.point) ks

-- the pinned ones among vertices
abbrev pub pinned_among : View → List VertexKey → List VertexKey
pinned_among v ks = filter (λ k. pinned_in v k.name) ks
