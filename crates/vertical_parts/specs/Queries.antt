-- Points that are asked for, in point order, each with its place.
use Rattle.std.specs.Prelude.{◌≡◌, ◌<◌, ℕ, pos, List, length, slice_index_or}
use Rattle.std.specs.Ordering.{nat_cmp, ordering_then}
use Rattle.std.specs.declared.cmp.Ordering.{Ordering}
use Rattle.exact_plane.specs.Point.{Point, IsPoint}
use Rattle.exact_plane.specs.PointOrder.{point_cmp}
use Rattle.plane_graphs.specs.Ascending.{Member, IsAscending}
use Rattle.vertical_parts.specs.declared.queries.Query.{Query}

-- what stands where no point does
abbrev pub no_point : Point
no_point = record { x = pos 0; y = pos 0; w = pos 0 }

-- the point at a place
abbrev pub point_at : List Point → ℕ → Point
point_at points i = slice_index_or points i no_point

-- by points, those of one point by their places (this project)
abbrev pub query_cmp : Query → Query → Ordering
query_cmp q r = ordering_then (point_cmp q.point r.point) (nat_cmp q.place r.place)

-- each place of the list once, with its point (this project)
pub record AreQueries (points : List Point) (queries : List Query) : Type 0 where
  pub ascends : IsAscending query_cmp queries
  pub proper : (q : Query) → Member q queries → IsPoint q.point
  pub sound : (q : Query) → Member q queries → (q.place < length points) × (q.point ≡ point_at points q.place)
  pub complete : (i : ℕ) → i < length points → Member (record { point = point_at points i; place = i }) queries
