use Rattle.std.proofs.Common.{List, subst}
use Rattle.plane_graphs.specs.Ascending.{Member}
use Rattle.slab_laws.specs.declared.names.DartId.{DartId}
use Rattle.library_tour.proofs.neighbours.put_boundaries.Goals as goal

-- the darts on boundaries have records
pub put_lengths-requires : goal.put_lengths-requires
put_lengths-requires g c = record { darts = λ d m. c.in_ok-outer.ensures.boundaries.darts d (subst (λ (ds : List DartId). Member d ds) c.deref.ensures.value m) }

pub put_lengths-requires-2 : goal.put_lengths-requires-2
put_lengths-requires-2 g c = record { darts = λ d m. c.in_ok-holes.ensures.boundaries.darts d (subst (λ (ds : List DartId). Member d ds) c.deref-2.ensures.value m) }
