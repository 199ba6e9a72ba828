use Rattle.std.proofs.Common.{List, subst}
use Rattle.plane_graphs.specs.Ascending.{Member}
use Rattle.slab_laws.specs.declared.names.VertexId.{VertexId}
use Rattle.library_tour.proofs.neighbours.put_isolated.Goals as goal

-- an isolated vertex has a record
pub put_points-requires : goal.put_points-requires
put_points-requires g c = record { vertices = λ w m. c.laws.ensures.faced.complete.bare_vertex w (((c.in_ok-isolated.ensures.isolated.just w).0 (subst (λ (ws : List VertexId). Member w ws) c.deref.ensures.value m)).0) }
