use Rattle.dcel_records.proofs.Maps.{rest_by}
use Rattle.segment_remove.proofs.room.make_room_of_cycles.Goals as goal

pub returns-clause-map : goal.returns-clause-map
returns-clause-map c = let e = c.reserve.ensures in rest_by c.args.records.now c.reserve.new.self e.graph e.tables e.lists e.returned
