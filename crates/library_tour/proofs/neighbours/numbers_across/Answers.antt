use Rattle.std.proofs.Common.{sym, subst}
use Rattle.std.specs.List.{slice_index_or}
use Rattle.plane_graphs.proofs.Sorting.{member_at}
use Rattle.slab_laws.specs.View.{HasDart, dart_id}
use Rattle.arrangement.specs.Arranged.{arranged}
use Rattle.library_tour.proofs.neighbours.numbers_across.Goals as goal

-- each dart of the list has a record
pub face_across-across-requires : goal.face_across-across-requires
face_across-across-requires g c =
    let d = slice_index_or c.args.darts.now c.darts.dart-index (dart_id 0) in
    record { dart = subst (λ m. HasDart (arranged (goal.Observer-dyn g) m).graph d) (sym c.darts.invariant) (c.requires.darts d (member_at c.args.darts.now c.darts.dart-index (dart_id 0) c.darts-test.true)) }
