-- The vertex at each point, found by the point's hash.
use Rattle.std.specs.Prelude.{◌≡◌, ◌≢◌, ◌↔◌, ℕ, Bool, true, List, Option, Some, None, option_map}
use Rattle.std.specs.HashMap.{get}
use Rattle.exact_plane.specs.Point.{Point}
use Rattle.exact_plane.specs.contracts.point.PointPartialEq.TheImpl as point_eq
use Rattle.slab_laws.specs.declared.names.VertexId.{VertexId}
use Rattle.slab_laws.specs.Tables.{row_at}
use Rattle.slab_laws.specs.View.{VertexRecord}
use Rattle.dcel_records.specs.declared.vertex_map.VertexMap.{VertexMap}

-- whether two points are one, as `==` says
abbrev pub equal_points : Point → Point → Bool
equal_points = (point_eq.ghosts).eq

-- the vertex that the map has at a point
abbrev pub vertex_mapped : VertexMap → Point → Option VertexId
vertex_mapped m p = get equal_points m.vertices p

-- the point of a row of a table of vertices
abbrev pub point_at : List (ℕ × VertexRecord) → ℕ → Option Point
point_at rows n = option_map (λ r. r.point) (row_at rows n)

-- a map that is whole has a vertex at a point exactly where the table has the vertex with that point; of another nothing is said (this project)
pub record IsMapOf (m : VertexMap) (rows : List (ℕ × VertexRecord)) : Type 0 where
  pub at : m.whole ≡ true → (p : Point) (w : VertexId) → (vertex_mapped m p ≡ Some w) ↔ (point_at rows w.0 ≡ Some p)

-- the second table has the vertex more, with this point
pub record IsOneMore (v : VertexId) (p : Point) (rows more : List (ℕ × VertexRecord)) : Type 0 where
  pub free : point_at rows v.0 ≡ None
  pub here : point_at more v.0 ≡ Some p
  pub others : (n : ℕ) → n ≢ v.0 → point_at more n ≡ point_at rows n
