-- Darts that lead from a vertex to a point.
use Rattle.std.specs.Prelude.{◌≡◌, ◌≢◌, Option, MatchOption}
use Rattle.exact_plane.specs.Point.{Point}
use Rattle.slab_laws.specs.declared.names.DartId.{DartId}
use Rattle.slab_laws.specs.declared.names.VertexId.{VertexId}
use Rattle.slab_laws.specs.View.{View, IsOutOf, point_in, target_in}

-- a dart from the vertex to the point, or none where no edge joins them (CGAL manual, circulator around a vertex)
abbrev pub IsDartTo : View → VertexId → Point → Option DartId → Type 0
IsDartTo v from p found =
    MatchOption found ((d : DartId) → IsOutOf v from d → point_in v (target_in v d) ≢ p)
    (λ d. IsOutOf v from d × (point_in v (target_in v d) ≡ p))
