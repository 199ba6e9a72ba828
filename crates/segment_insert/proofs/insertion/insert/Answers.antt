use Rattle.std.proofs.Common.{◌≡◌, ◌+◌, ◌≤◌, None, length, refl, sym, arith}
use Rattle.edit_steps.proofs.Refusals.{insertion_allowed, no_memory}
use Rattle.dcel_records.specs.SoundMaps.{map_of}
use Rattle.curve_history.specs.declared.history.TheConstants.{LAST_CURVE}
use Rattle.segment_insert.specs.Insertion.{insert_said, refusal_at, HasRoomForPlan}
use Rattle.segment_insert.specs.declared.insertion.InsertError.TheVariants.{NoMemory}
use Rattle.dcel_records.proofs.Maps.{one_map}
use Rattle.told_steps.proofs.Begun.{begun_in_step, still_watched}
use Rattle.segment_insert.proofs.Layers.{by_same_sides, past_of_layer}
use Rattle.told_steps.proofs.Moved.{layer_stays}
use Rattle.segment_insert.proofs.insertion.insert.Goals as goal
use Rattle.told_steps.specs.LayerEdits.{layer_at}

pub returns-in_err-plan-clause-layer : goal.returns-in_err-plan-clause-layer
returns-in_err-plan-clause-layer g c =
    let e = c.prepare.ensures in
    layer_stays c.args.records.now.graph c.prepare.new.records.graph c.args.history.now c.prepare.new.history e.graph e.same_layer e.same_strands c.requires.layer

pub insert_by_plan-requires-clause-layer : goal.insert_by_plan-requires-clause-layer
insert_by_plan-requires-clause-layer g c =
    let e = c.prepare.ensures in
    layer_stays c.args.records.now.graph c.prepare.new.records.graph c.args.history.now c.prepare.new.history e.graph e.same_layer e.same_strands c.requires.layer

pub insert_by_plan-requires-clause-room : goal.insert_by_plan-requires-clause-room
insert_by_plan-requires-clause-room g c =
    let e = c.prepare.ensures in
    by_same_sides (λ h. HasRoomForPlan c.in_ok-plan.plan h c.prepare.new.records c.prepare.new.history) c.args.history.now c.prepare.new.history e.same_strands c.in_ok-plan.ensures.room

pub returns-in-Some-clause-refused : goal.returns-in-Some-clause-refused
returns-in-Some-clause-refused g c = sym (c.in-Some.ensures c.args.records.now)

pub returns-in_err-plan-clause-refused : goal.returns-in_err-plan-clause-refused
returns-in_err-plan-clause-refused g c = no_memory insert_said NoMemory _ c.from_residual.result c.from_residual.ensures.1 refl (c.in_default.ensures c.args.records.now)

pub insert_by_plan-requires-clause-unspent : goal.insert_by_plan-requires-clause-unspent
insert_by_plan-requires-clause-unspent g c =
    let none : refusal_at c.args.curves c.args.pieces c.args.records.now c.args.history.now ≡ None = c.in_default.ensures c.args.records.now in
    let k = insertion_allowed 1 c.args.curves c.args.pieces LAST_CURVE (layer_at c.args.records.now c.args.history.now) none in
    let n = c.prepare.ensures.same_layer.next in
    rw n k.1

pub insert_by_plan-requires-clause-few : goal.insert_by_plan-requires-clause-few
insert_by_plan-requires-clause-few g c =
    let none : refusal_at c.args.curves c.args.pieces c.args.records.now c.args.history.now ≡ None = c.in_default.ensures c.args.records.now in
    let k = insertion_allowed 1 c.args.curves c.args.pieces LAST_CURVE (layer_at c.args.records.now c.args.history.now) none in
    let few : length c.args.history.now.pieces + 1 ≤ c.args.pieces = k.0 in
    rw c.prepare.ensures.same_layer.pieces (omega arith)

pub returns-in_err-plan-clause-watched : goal.returns-in_err-plan-clause-watched
returns-in_err-plan-clause-watched g c =
    let e = c.prepare.ensures in
    still_watched (map_of c.args.records.now) c.args.history.now (map_of c.prepare.new.records) c.prepare.new.history (one_map c.prepare.new.records c.args.records.now e.graph e.tables) e.same_curves _ c.requires.watched

pub insert_by_plan-requires-clause-in_step : goal.insert_by_plan-requires-clause-in_step
insert_by_plan-requires-clause-in_step g c =
    let e = c.prepare.ensures in
    begun_in_step (map_of c.args.records.now) c.args.history.now (map_of c.prepare.new.records) c.prepare.new.history (one_map c.prepare.new.records c.args.records.now e.graph e.tables) e.same_curves c.begin.ensures.begun c.requires.map.map.sound c.requires.layer c.requires.watched

pub prepare-requires-clause-start : goal.prepare-requires-clause-start
prepare-requires-clause-start g c = c.requires.start

pub returns-in-Some-clause-looks : goal.returns-in-Some-clause-looks
returns-in-Some-clause-looks g c = λ n k. omega arith

pub prepare-requires-clause-past : goal.prepare-requires-clause-past
prepare-requires-clause-past g c = past_of_layer c.args.records.now.graph c.args.history.now c.requires.layer
