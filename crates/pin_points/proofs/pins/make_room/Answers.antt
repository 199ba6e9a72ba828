use Rattle.dcel_records.proofs.Maps.{rest_by}
use Rattle.pin_points.proofs.pins.make_room.Goals as goal

pub returns-in_err-reserve-clause-map : goal.returns-in_err-reserve-clause-map
returns-in_err-reserve-clause-map c = let e = c.reserve.ensures in rest_by c.args.records.now c.reserve.new.self e.graph e.tables e.lists e.returned

pub returns-clause-map : goal.returns-clause-map
returns-clause-map c = let e = c.reserve.ensures in rest_by c.args.records.now c.reserve.new.self e.graph e.tables e.lists e.returned
