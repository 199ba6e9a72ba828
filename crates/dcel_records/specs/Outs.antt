-- A dart out of a vertex, and another one beside a given dart.
use Rattle.std.specs.Prelude.{◌≡◌, ◌≢◌, Option, Some, None}
use Rattle.slab_laws.specs.declared.names.DartId.{DartId}
use Rattle.slab_laws.specs.declared.names.VertexId.{VertexId}
use Rattle.slab_laws.specs.View.{View, IsOutOf, source_in}

-- a dart out of the vertex, and none only where no dart leaves it (CGAL manual, a vertex knows one of its halfedges)
pub record IsOut (v : View) (w : VertexId) (o : Option DartId) : Type 0 where
  pub some : (d : DartId) → o ≡ Some d → IsOutOf v w d
  pub none : o ≡ None → (d : DartId) → ¬ IsOutOf v w d

-- another dart out of d's source than d, and none only where d is the only one (this project)
pub record IsRest (v : View) (d : DartId) (o : Option DartId) : Type 0 where
  pub some : (e : DartId) → o ≡ Some e → IsOutOf v (source_in v d) e × (e ≢ d)
  pub none : o ≡ None → (e : DartId) → IsOutOf v (source_in v d) e → e ≡ d
