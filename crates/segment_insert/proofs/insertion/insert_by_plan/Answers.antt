use Rattle.std.proofs.Common.{◌≡◌, refl, sym, ap, ◌∙◌, subst, arith, inl}
use Rattle.plane_graphs.specs.Ascending.{Member}
use Rattle.plane_graphs.proofs.Lists.{in_right}
use Rattle.dcel_records.specs.SoundMaps.{map_of}
use Rattle.curve_history.specs.Past.{SameStrands, curves_on, strands_on}
use Rattle.segment_insert.specs.Insertion.{pairs_to_part, AreMeetings}
use Rattle.told_steps.proofs.Begun.{still_in_step}
use Rattle.told_steps.proofs.Moved.{one_curves}
use Rattle.edit_steps.specs.Allowed.{AreSound}
use Rattle.arr_notes.specs.RecordGraph.{drawn_graph}
use Rattle.dcel_records.specs.RecordsView.{tables_of}
use Rattle.zone_walk.specs.Zone.{splits_needed, points_of_meetings}
use Rattle.segment_insert.proofs.Layers.{one_sides}
use Rattle.segment_insert.proofs.CurvePlanned.{IsHalfMade, told_of_plan, sound_first, all_on, plane_then, all_told, layer_made, one_name}
use Rattle.segment_insert.proofs.Planned.{IsPlanned, curve, meetings, each_on, room_left, one_for_each, pairs_left, one_piece}
use Rattle.segment_insert.proofs.insertion.insert_by_plan.Goals as goal
use Rattle.segment_insert.specs.Coming.{steps_at}

pub make_vertices-requires-clause-in_step : goal.make_vertices-requires-clause-in_step
make_vertices-requires-clause-in_step g c =
    still_in_step (map_of c.args.records.now) c.args.history.now (map_of c.args.records.now) c.add_piece.new.self refl (λ d. c.add_piece.ensures.curves d ∙ c.draw-curve.ensures.curves d) c.requires.in_step

pub make_vertices-requires-clause-meetings : goal.make_vertices-requires-clause-meetings
make_vertices-requires-clause-meetings g c =
    let planned : IsPlanned (map_of c.args.records.now) c.args.history.now c.args.segment.now c.args.plan c.draw-curve.result.0 = record { layer = c.requires.layer; ends = c.lower-lower.ensures.ends; zone = c.requires.zone; number = c.draw-curve.ensures.number } in
    subst (AreMeetings c.args.records.now.graph (tables_of c.args.records.now)) (sym c.into_vec-meetings.ensures) (meetings planned)

pub make_vertices-requires-clause-plane : goal.make_vertices-requires-clause-plane
make_vertices-requires-clause-plane g c =
    let planned : IsPlanned (map_of c.args.records.now) c.args.history.now c.args.segment.now c.args.plan c.draw-curve.result.0 = record { layer = c.requires.layer; ends = c.lower-lower.ensures.ends; zone = c.requires.zone; number = c.draw-curve.ensures.number } in
    let same = one_curves c.args.history.now c.add_piece.new.self (λ d. c.add_piece.ensures.curves d ∙ c.draw-curve.ensures.curves d) in
    let g = drawn_graph c.args.records.now.graph (curves_on c.add_piece.new.self) in
    subst (λ ms. AreSound (steps_at c.args.records.now.graph (curves_on c.add_piece.new.self) (points_of_meetings ms)) g) (sym c.into_vec-meetings.ensures) (sound_first (curve planned) (curves_on c.add_piece.new.self) same)

pub make_vertices-requires-clause-pairs : goal.make_vertices-requires-clause-pairs
make_vertices-requires-clause-pairs g c =
    let same : SameStrands c.args.history.now c.add_piece.new.self = λ d. c.add_piece.ensures.strands d ∙ c.draw-curve.ensures.strands d in
    let e : pairs_to_part (strands_on c.add_piece.new.self) c.into_vec-meetings.result.items ≡ pairs_to_part (strands_on c.args.history.now) c.args.plan.vertices = ap (pairs_to_part (strands_on c.add_piece.new.self)) c.into_vec-meetings.ensures ∙ ap (λ h. pairs_to_part h c.args.plan.vertices) (one_sides c.args.history.now c.add_piece.new.self same) in
    omega arith

pub make_edges-requires-clause-on : goal.make_edges-requires-clause-on
make_edges-requires-clause-on g c =
    let planned : IsPlanned (map_of c.args.records.now) c.args.history.now c.args.segment.now c.args.plan c.draw-curve.result.0 = record { layer = c.requires.layer; ends = c.lower-lower.ensures.ends; zone = c.requires.zone; number = c.draw-curve.ensures.number } in
    let are = c.into_vec-meetings.ensures in
    let kept = ap points_of_meetings c.deref.ensures.value ∙ c.make_vertices.ensures.points ∙ ap points_of_meetings are in
    each_on planned c.deref.result.now kept

pub make_edges-requires-clause-all_on : goal.make_edges-requires-clause-all_on
make_edges-requires-clause-all_on g c =
    let planned : IsPlanned (map_of c.args.records.now) c.args.history.now c.args.segment.now c.args.plan c.draw-curve.result.0 = record { layer = c.requires.layer; ends = c.lower-lower.ensures.ends; zone = c.requires.zone; number = c.draw-curve.ensures.number } in
    let same : SameStrands c.args.history.now c.add_piece.new.self = λ d. c.add_piece.ensures.strands d ∙ c.draw-curve.ensures.strands d in
    let are = c.into_vec-meetings.ensures in
    let kept = ap points_of_meetings c.deref.ensures.value ∙ c.make_vertices.ensures.points ∙ ap points_of_meetings are in
    let half : IsHalfMade (map_of c.args.records.now) c.args.history.now c.args.plan.vertices _ (map_of c.make_vertices.new.records) c.make_vertices.new.history _ c.deref.result.now = record { told = told_of_plan _ c.args.history.now c.add_piece.new.self _ _ c.make_vertices.new.history _ same are c.make_vertices.ensures.told; kept = kept } in
    all_on (curve planned) half c.args.segment.now (inl refl)

pub make_edges-requires-clause-curve_named : goal.make_edges-requires-clause-curve_named
make_edges-requires-clause-curve_named g c =
    let e = c.make_vertices.ensures.layer.names ∙ c.add_piece.ensures.names ∙ c.draw-curve.ensures.names in
    subst (Member c.draw-curve.result.0) (sym e) (in_right c.draw-curve.result.0 c.args.history.now.names _ (inl c.draw-curve.ensures.number))

pub make_edges-requires-clause-plane : goal.make_edges-requires-clause-plane
make_edges-requires-clause-plane g c =
    let planned : IsPlanned (map_of c.args.records.now) c.args.history.now c.args.segment.now c.args.plan c.draw-curve.result.0 = record { layer = c.requires.layer; ends = c.lower-lower.ensures.ends; zone = c.requires.zone; number = c.draw-curve.ensures.number } in
    let same : SameStrands c.args.history.now c.add_piece.new.self = λ d. c.add_piece.ensures.strands d ∙ c.draw-curve.ensures.strands d in
    let are = c.into_vec-meetings.ensures in
    let kept = ap points_of_meetings c.deref.ensures.value ∙ c.make_vertices.ensures.points ∙ ap points_of_meetings are in
    let half : IsHalfMade (map_of c.args.records.now) c.args.history.now c.args.plan.vertices _ (map_of c.make_vertices.new.records) c.make_vertices.new.history _ c.deref.result.now = record { told = told_of_plan _ c.args.history.now c.add_piece.new.self _ _ c.make_vertices.new.history _ same are c.make_vertices.ensures.told; kept = kept } in
    plane_then (curve planned) half

pub make_edges-requires-clause-darts : goal.make_edges-requires-clause-darts
make_edges-requires-clause-darts g c =
    let planned : IsPlanned (map_of c.args.records.now) c.args.history.now c.args.segment.now c.args.plan c.draw-curve.result.0 = record { layer = c.requires.layer; ends = c.lower-lower.ensures.ends; zone = c.requires.zone; number = c.draw-curve.ensures.number } in
    let are = c.into_vec-meetings.ensures in
    let kept = ap points_of_meetings c.deref.ensures.value ∙ c.make_vertices.ensures.points ∙ ap points_of_meetings are in
    let s : splits_needed c.into_vec-meetings.result.items ≡ splits_needed c.args.plan.vertices = ap splits_needed are in
    room_left planned c.deref.result.now c.args.records.now.spare_darts c.make_vertices.new.records.spare_darts kept c.requires.room.darts (omega arith)

pub make_edges-requires-clause-cycles : goal.make_edges-requires-clause-cycles
make_edges-requires-clause-cycles g c =
    let planned : IsPlanned (map_of c.args.records.now) c.args.history.now c.args.segment.now c.args.plan c.draw-curve.result.0 = record { layer = c.requires.layer; ends = c.lower-lower.ensures.ends; zone = c.requires.zone; number = c.draw-curve.ensures.number } in
    let kept = ap points_of_meetings c.deref.ensures.value ∙ c.make_vertices.ensures.points ∙ ap points_of_meetings c.into_vec-meetings.ensures in
    one_for_each planned c.deref.result.now c.args.plan.room.cycles c.args.records.now.faces.spare_cycles c.make_vertices.new.records.faces.spare_cycles kept c.requires.zone.cycles c.requires.room.cycles c.make_vertices.ensures.spare_faces.of_cycles

pub make_edges-requires-clause-faces : goal.make_edges-requires-clause-faces
make_edges-requires-clause-faces g c =
    let planned : IsPlanned (map_of c.args.records.now) c.args.history.now c.args.segment.now c.args.plan c.draw-curve.result.0 = record { layer = c.requires.layer; ends = c.lower-lower.ensures.ends; zone = c.requires.zone; number = c.draw-curve.ensures.number } in
    let kept = ap points_of_meetings c.deref.ensures.value ∙ c.make_vertices.ensures.points ∙ ap points_of_meetings c.into_vec-meetings.ensures in
    one_for_each planned c.deref.result.now c.args.plan.room.faces c.args.records.now.faces.spare_faces c.make_vertices.new.records.faces.spare_faces kept c.requires.zone.faces c.requires.room.faces c.make_vertices.ensures.spare_faces.of_faces

pub make_edges-requires-clause-pairs : goal.make_edges-requires-clause-pairs
make_edges-requires-clause-pairs g c =
    let planned : IsPlanned (map_of c.args.records.now) c.args.history.now c.args.segment.now c.args.plan c.draw-curve.result.0 = record { layer = c.requires.layer; ends = c.lower-lower.ensures.ends; zone = c.requires.zone; number = c.draw-curve.ensures.number } in
    let same : SameStrands c.args.history.now c.add_piece.new.self = λ d. c.add_piece.ensures.strands d ∙ c.draw-curve.ensures.strands d in
    let are = c.into_vec-meetings.ensures in
    let kept = ap points_of_meetings c.deref.ensures.value ∙ c.make_vertices.ensures.points ∙ ap points_of_meetings are in
    let e : pairs_to_part (strands_on c.add_piece.new.self) c.into_vec-meetings.result.items ≡ pairs_to_part (strands_on c.args.history.now) c.args.plan.vertices = ap (pairs_to_part (strands_on c.add_piece.new.self)) are ∙ ap (λ h. pairs_to_part h c.args.plan.vertices) (one_sides c.args.history.now c.add_piece.new.self same) in
    pairs_left planned c.deref.result.now c.add_piece.new.self.spare_pairs c.make_vertices.new.history.spare_pairs (pairs_to_part (strands_on c.args.history.now) c.args.plan.vertices) kept (omega arith) (omega arith)

pub returns-clause-layer : goal.returns-clause-layer
returns-clause-layer g c =
    let planned : IsPlanned (map_of c.args.records.now) c.args.history.now c.args.segment.now c.args.plan c.draw-curve.result.0 = record { layer = c.requires.layer; ends = c.lower-lower.ensures.ends; zone = c.requires.zone; number = c.draw-curve.ensures.number } in
    let same : SameStrands c.args.history.now c.add_piece.new.self = λ d. c.add_piece.ensures.strands d ∙ c.draw-curve.ensures.strands d in
    let are = c.into_vec-meetings.ensures in
    let kept = ap points_of_meetings c.deref.ensures.value ∙ c.make_vertices.ensures.points ∙ ap points_of_meetings are in
    let half : IsHalfMade (map_of c.args.records.now) c.args.history.now c.args.plan.vertices _ (map_of c.make_vertices.new.records) c.make_vertices.new.history _ c.deref.result.now = record { told = told_of_plan _ c.args.history.now c.add_piece.new.self _ _ c.make_vertices.new.history _ same are c.make_vertices.ensures.told; kept = kept } in
    let layer = c.make_edges.ensures.layer in
    let before = c.make_vertices.ensures.layer in
    let piece = one_piece c.args.history.now.pieces c.draw-curve.new.self.pieces c.draw-curve.result.0 c.args.segment.now c.lower-lower.result c.upper-upper.result c.draw-curve.ensures.pieces c.lower-lower.ensures.value c.upper-upper.ensures in
    let name = one_name c.args.history.now.names c.draw-curve.result.0 c.args.history.now.next c.draw-curve.ensures.number in
    let pieces = layer.pieces ∙ before.pieces ∙ c.add_piece.ensures.pieces ∙ piece in
    let names = layer.names ∙ before.names ∙ c.add_piece.ensures.names ∙ c.draw-curve.ensures.names ∙ name in
    let next = layer.next ∙ before.next ∙ c.add_piece.ensures.next ∙ c.draw-curve.ensures.next in
    (layer_made (curve planned) half (map_of c.make_edges.new.records) c.make_edges.new.history _ c.make_edges.ensures.told c.make_edges.ensures.strands pieces names next).0

pub returns-clause-edit : goal.returns-clause-edit
returns-clause-edit g c =
    let planned : IsPlanned (map_of c.args.records.now) c.args.history.now c.args.segment.now c.args.plan c.draw-curve.result.0 = record { layer = c.requires.layer; ends = c.lower-lower.ensures.ends; zone = c.requires.zone; number = c.draw-curve.ensures.number } in
    let same : SameStrands c.args.history.now c.add_piece.new.self = λ d. c.add_piece.ensures.strands d ∙ c.draw-curve.ensures.strands d in
    let are = c.into_vec-meetings.ensures in
    let kept = ap points_of_meetings c.deref.ensures.value ∙ c.make_vertices.ensures.points ∙ ap points_of_meetings are in
    let half : IsHalfMade (map_of c.args.records.now) c.args.history.now c.args.plan.vertices _ (map_of c.make_vertices.new.records) c.make_vertices.new.history _ c.deref.result.now = record { told = told_of_plan _ c.args.history.now c.add_piece.new.self _ _ c.make_vertices.new.history _ same are c.make_vertices.ensures.told; kept = kept } in
    let layer = c.make_edges.ensures.layer in
    let before = c.make_vertices.ensures.layer in
    let piece = one_piece c.args.history.now.pieces c.draw-curve.new.self.pieces c.draw-curve.result.0 c.args.segment.now c.lower-lower.result c.upper-upper.result c.draw-curve.ensures.pieces c.lower-lower.ensures.value c.upper-upper.ensures in
    let name = one_name c.args.history.now.names c.draw-curve.result.0 c.args.history.now.next c.draw-curve.ensures.number in
    let pieces = layer.pieces ∙ before.pieces ∙ c.add_piece.ensures.pieces ∙ piece in
    let names = layer.names ∙ before.names ∙ c.add_piece.ensures.names ∙ c.draw-curve.ensures.names ∙ name in
    let next = layer.next ∙ before.next ∙ c.add_piece.ensures.next ∙ c.draw-curve.ensures.next in
    (layer_made (curve planned) half (map_of c.make_edges.new.records) c.make_edges.new.history _ c.make_edges.ensures.told c.make_edges.ensures.strands pieces names next).1

pub returns-clause-told : goal.returns-clause-told
returns-clause-told g c =
    let planned : IsPlanned (map_of c.args.records.now) c.args.history.now c.args.segment.now c.args.plan c.draw-curve.result.0 = record { layer = c.requires.layer; ends = c.lower-lower.ensures.ends; zone = c.requires.zone; number = c.draw-curve.ensures.number } in
    let same : SameStrands c.args.history.now c.add_piece.new.self = λ d. c.add_piece.ensures.strands d ∙ c.draw-curve.ensures.strands d in
    let are = c.into_vec-meetings.ensures in
    let kept = ap points_of_meetings c.deref.ensures.value ∙ c.make_vertices.ensures.points ∙ ap points_of_meetings are in
    let half : IsHalfMade (map_of c.args.records.now) c.args.history.now c.args.plan.vertices _ (map_of c.make_vertices.new.records) c.make_vertices.new.history _ c.deref.result.now = record { told = told_of_plan _ c.args.history.now c.add_piece.new.self _ _ c.make_vertices.new.history _ same are c.make_vertices.ensures.told; kept = kept } in
    all_told (curve planned) half (map_of c.make_edges.new.records) c.make_edges.new.history _ c.make_edges.ensures.told
