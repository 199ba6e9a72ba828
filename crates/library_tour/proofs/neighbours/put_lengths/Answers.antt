use Rattle.std.specs.List.{slice_index_or}
use Rattle.plane_graphs.proofs.Sorting.{member_at}
use Rattle.slab_laws.specs.View.{dart_id}
use Rattle.library_tour.proofs.neighbours.put_lengths.Goals as goal

-- each dart of the list has a record
pub darts_along-requires : goal.darts_along-requires
darts_along-requires g c = record { dart = c.requires.darts (slice_index_or c.args.boundaries.now c.boundaries.dart-index (dart_id 0)) (member_at c.args.boundaries.now c.boundaries.dart-index (dart_id 0) c.boundaries-test.true) }

pub first_corner-corner-requires : goal.first_corner-corner-requires
first_corner-corner-requires g c = record { dart = c.requires.darts (slice_index_or c.args.boundaries.now c.boundaries.dart-index (dart_id 0)) (member_at c.args.boundaries.now c.boundaries.dart-index (dart_id 0) c.boundaries-test.true) }
