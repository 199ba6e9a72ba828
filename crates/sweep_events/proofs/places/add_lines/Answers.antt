use Rattle.std.proofs.Common.{get_or}
use Rattle.plane_graphs.proofs.Sorting.{member_at}
use Rattle.sweep_events.proofs.places.add_lines.Goals as goal

pub at_place-requires : goal.at_place-requires
at_place-requires c = c.requires (get_or c.args.places.now c.loop-place.place-index 0) (member_at c.args.places.now c.loop-place.place-index 0 c.loop-place-test.true)
