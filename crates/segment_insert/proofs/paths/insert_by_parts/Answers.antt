use Rattle.std.proofs.Common.{◌≡◌, ◌++◌, length, refl, sym, ap, ◌∙◌, subst, arith, inl}
use Rattle.plane_graphs.specs.Ascending.{Member}
use Rattle.plane_graphs.proofs.Lists.{in_right}
use Rattle.edit_steps.specs.Allowed.{AreSound}
use Rattle.edit_steps.specs.Edits.{path_pieces}
use Rattle.arr_notes.specs.RecordGraph.{drawn_graph}
use Rattle.dcel_records.specs.RecordsView.{tables_of}
use Rattle.dcel_records.specs.SoundMaps.{map_of}
use Rattle.curve_history.specs.Past.{SameStrands, curves_on, strands_on}
use Rattle.told_steps.proofs.Begun.{still_in_step}
use Rattle.told_steps.proofs.Moved.{one_curves}
use Rattle.zone_walk.specs.Zone.{splits_needed, vertices_needed, points_of_meetings}
use Rattle.segment_insert.specs.Coming.{steps_at}
use Rattle.segment_insert.specs.Insertion.{pairs_to_part, AreMeetings}
use Rattle.segment_insert.specs.Paths.{AreAllParts}
use Rattle.segment_insert.specs.StepsMade.{AreAllOnSides, ArePartsOf}
use Rattle.segment_insert.proofs.CurvePlanned.{IsHalfMade, told_of_plan, sound_first, all_on, plane_then, all_told, layer_made, one_name}
use Rattle.segment_insert.proofs.Layers.{one_sides}
use Rattle.segment_insert.proofs.PathPlanned.{are_sides, path_curve, path_meetings, IsPathPlanned}
use Rattle.segment_insert.proofs.paths.insert_by_parts.Goals as goal

pub make_vertices-requires-clause-in_step : goal.make_vertices-requires-clause-in_step
make_vertices-requires-clause-in_step g c =
    still_in_step (map_of c.args.records.now) c.args.history.now (map_of c.args.records.now) c.add_sides.new.history refl (λ d. c.add_sides.ensures.curves d ∙ c.draw-curve.ensures.curves d) c.requires.in_step

pub make_vertices-requires-clause-meetings : goal.make_vertices-requires-clause-meetings
make_vertices-requires-clause-meetings g c =
    let planned : IsPathPlanned (map_of c.args.records.now) c.args.history.now c.args.sides.now c.args.planned.plan c.args.planned.parts.items c.draw-curve.result.0 = record { layer = c.requires.layer; sides = are_sides c.args.sides.now c.requires.sides c.add_sides.ensures.ends; zone = c.requires.zone; parts = c.requires.parts; number = c.draw-curve.ensures.number } in
    subst (AreMeetings c.args.records.now.graph (tables_of c.args.records.now)) (sym c.into_vertices-meetings.ensures) (path_meetings planned)

pub make_vertices-requires-clause-plane : goal.make_vertices-requires-clause-plane
make_vertices-requires-clause-plane g c =
    let planned : IsPathPlanned (map_of c.args.records.now) c.args.history.now c.args.sides.now c.args.planned.plan c.args.planned.parts.items c.draw-curve.result.0 = record { layer = c.requires.layer; sides = are_sides c.args.sides.now c.requires.sides c.add_sides.ensures.ends; zone = c.requires.zone; parts = c.requires.parts; number = c.draw-curve.ensures.number } in
    let same = one_curves c.args.history.now c.add_sides.new.history (λ d. c.add_sides.ensures.curves d ∙ c.draw-curve.ensures.curves d) in
    let here = drawn_graph c.args.records.now.graph (curves_on c.add_sides.new.history) in
    subst (λ ms. AreSound (steps_at c.args.records.now.graph (curves_on c.add_sides.new.history) (points_of_meetings ms)) here) (sym c.into_vertices-meetings.ensures) (sound_first (path_curve planned) (curves_on c.add_sides.new.history) same)

pub make_vertices-requires-clause-vertices : goal.make_vertices-requires-clause-vertices
make_vertices-requires-clause-vertices g c =
    omega (arith, ap vertices_needed c.into_vertices-meetings.ensures, c.requires.room.1.vertices, c.requires.room.2.vertices)

pub make_vertices-requires-clause-darts : goal.make_vertices-requires-clause-darts
make_vertices-requires-clause-darts g c =
    omega (arith, ap splits_needed c.into_vertices-meetings.ensures, c.requires.room.1.edges, c.requires.room.2.darts)

pub make_vertices-requires-clause-pairs : goal.make_vertices-requires-clause-pairs
make_vertices-requires-clause-pairs g c =
    let same : SameStrands c.args.history.now c.add_sides.new.history = λ d. c.add_sides.ensures.strands d ∙ c.draw-curve.ensures.strands d in
    let e : pairs_to_part (strands_on c.add_sides.new.history) c.into_vertices-meetings.result.items ≡ pairs_to_part (strands_on c.args.history.now) c.args.planned.plan.vertices = ap (pairs_to_part (strands_on c.add_sides.new.history)) c.into_vertices-meetings.ensures ∙ ap (λ h. pairs_to_part h c.args.planned.plan.vertices) (one_sides c.args.history.now c.add_sides.new.history same) in
    omega (arith, e, c.requires.room.2.pairs, c.draw-curve.ensures.spare_pairs, c.add_sides.ensures.spare_pairs)

pub make_parts-requires-clause-all_on : goal.make_parts-requires-clause-all_on
make_parts-requires-clause-all_on g c =
    let planned : IsPathPlanned (map_of c.args.records.now) c.args.history.now c.args.sides.now c.args.planned.plan c.deref-2.result.now c.draw-curve.result.0 = record { layer = c.requires.layer; sides = are_sides c.args.sides.now c.requires.sides c.add_sides.ensures.ends; zone = c.requires.zone; parts = subst (AreAllParts (points_of_meetings c.args.planned.plan.vertices) c.args.sides.now) (sym c.deref-2.ensures.value) c.requires.parts; number = c.draw-curve.ensures.number } in
    let same : SameStrands c.args.history.now c.add_sides.new.history = λ d. c.add_sides.ensures.strands d ∙ c.draw-curve.ensures.strands d in
    let are = c.into_vertices-meetings.ensures in
    let kept = ap points_of_meetings c.deref.ensures.value ∙ c.make_vertices.ensures.points ∙ ap points_of_meetings are in
    let half : IsHalfMade (map_of c.args.records.now) c.args.history.now c.args.planned.plan.vertices _ (map_of c.make_vertices.new.records) c.make_vertices.new.history _ c.deref.result.now = record { told = told_of_plan _ c.args.history.now c.add_sides.new.history _ _ c.make_vertices.new.history _ same are c.make_vertices.ensures.told; kept = kept } in
    subst (λ ss. AreAllOnSides c.make_vertices.new.records.graph ss (points_of_meetings c.deref.result.now)) (sym (c.as_slice-lined.ensures.value ∙ c.requires.lined)) (all_on (path_curve planned) half)

pub make_parts-requires-clause-few : goal.make_parts-requires-clause-few
make_parts-requires-clause-few g c =
    omega (arith, ap length (c.as_slice-lined.ensures.value ∙ c.requires.lined), c.requires.sides.few)

pub make_parts-requires-clause-parts : goal.make_parts-requires-clause-parts
make_parts-requires-clause-parts g c =
    let are = c.into_vertices-meetings.ensures in
    let kept = ap points_of_meetings c.deref.ensures.value ∙ c.make_vertices.ensures.points ∙ ap points_of_meetings are in
    subst (λ ss. ArePartsOf (points_of_meetings c.deref.result.now) ss c.deref-2.result.now) (sym (c.as_slice-lined.ensures.value ∙ c.requires.lined))
    (subst (λ ts. ArePartsOf (points_of_meetings c.deref.result.now) c.args.sides.now ts) (sym c.deref-2.ensures.value) (subst (λ ps. ArePartsOf ps c.args.sides.now c.args.planned.parts.items) (sym kept) c.requires.parts.parts))

pub make_parts-requires-clause-curve_named : goal.make_parts-requires-clause-curve_named
make_parts-requires-clause-curve_named g c =
    let e = c.make_vertices.ensures.layer.names ∙ c.add_sides.ensures.names ∙ c.draw-curve.ensures.names in
    subst (Member c.draw-curve.result.0) (sym e) (in_right c.draw-curve.result.0 c.args.history.now.names _ (inl c.draw-curve.ensures.number))

pub make_parts-requires-clause-plane : goal.make_parts-requires-clause-plane
make_parts-requires-clause-plane g c =
    let planned : IsPathPlanned (map_of c.args.records.now) c.args.history.now c.args.sides.now c.args.planned.plan c.deref-2.result.now c.draw-curve.result.0 = record { layer = c.requires.layer; sides = are_sides c.args.sides.now c.requires.sides c.add_sides.ensures.ends; zone = c.requires.zone; parts = subst (AreAllParts (points_of_meetings c.args.planned.plan.vertices) c.args.sides.now) (sym c.deref-2.ensures.value) c.requires.parts; number = c.draw-curve.ensures.number } in
    let same : SameStrands c.args.history.now c.add_sides.new.history = λ d. c.add_sides.ensures.strands d ∙ c.draw-curve.ensures.strands d in
    let are = c.into_vertices-meetings.ensures in
    let kept = ap points_of_meetings c.deref.ensures.value ∙ c.make_vertices.ensures.points ∙ ap points_of_meetings are in
    let half : IsHalfMade (map_of c.args.records.now) c.args.history.now c.args.planned.plan.vertices _ (map_of c.make_vertices.new.records) c.make_vertices.new.history _ c.deref.result.now = record { told = told_of_plan _ c.args.history.now c.add_sides.new.history _ _ c.make_vertices.new.history _ same are c.make_vertices.ensures.told; kept = kept } in
    plane_then (path_curve planned) half

pub make_parts-requires-clause-darts : goal.make_parts-requires-clause-darts
make_parts-requires-clause-darts g c =
    let s : splits_needed c.into_vertices-meetings.result.items ≡ splits_needed c.args.planned.plan.vertices = ap splits_needed c.into_vertices-meetings.ensures in
    omega (arith, s, c.requires.room.1.edges, c.requires.room.2.darts, c.make_vertices.ensures.spare_darts)

pub make_parts-requires-clause-cycles : goal.make_parts-requires-clause-cycles
make_parts-requires-clause-cycles g c =
    omega (arith, c.requires.room.1.cycles, c.requires.room.2.cycles, c.make_vertices.ensures.spare_faces.of_cycles)

pub make_parts-requires-clause-faces : goal.make_parts-requires-clause-faces
make_parts-requires-clause-faces g c =
    omega (arith, c.requires.room.1.faces, c.requires.room.2.faces, c.make_vertices.ensures.spare_faces.of_faces)

pub make_parts-requires-clause-pairs : goal.make_parts-requires-clause-pairs
make_parts-requires-clause-pairs g c =
    let same : SameStrands c.args.history.now c.add_sides.new.history = λ d. c.add_sides.ensures.strands d ∙ c.draw-curve.ensures.strands d in
    let e : pairs_to_part (strands_on c.add_sides.new.history) c.into_vertices-meetings.result.items ≡ pairs_to_part (strands_on c.args.history.now) c.args.planned.plan.vertices = ap (pairs_to_part (strands_on c.add_sides.new.history)) c.into_vertices-meetings.ensures ∙ ap (λ h. pairs_to_part h c.args.planned.plan.vertices) (one_sides c.args.history.now c.add_sides.new.history same) in
    omega (arith, e, c.requires.room.2.pairs, c.draw-curve.ensures.spare_pairs, c.add_sides.ensures.spare_pairs, c.make_vertices.ensures.spare_pairs)

pub returns-clause-layer : goal.returns-clause-layer
returns-clause-layer g c =
    let planned : IsPathPlanned (map_of c.args.records.now) c.args.history.now c.args.sides.now c.args.planned.plan c.deref-2.result.now c.draw-curve.result.0 = record { layer = c.requires.layer; sides = are_sides c.args.sides.now c.requires.sides c.add_sides.ensures.ends; zone = c.requires.zone; parts = subst (AreAllParts (points_of_meetings c.args.planned.plan.vertices) c.args.sides.now) (sym c.deref-2.ensures.value) c.requires.parts; number = c.draw-curve.ensures.number } in
    let same : SameStrands c.args.history.now c.add_sides.new.history = λ d. c.add_sides.ensures.strands d ∙ c.draw-curve.ensures.strands d in
    let are = c.into_vertices-meetings.ensures in
    let kept = ap points_of_meetings c.deref.ensures.value ∙ c.make_vertices.ensures.points ∙ ap points_of_meetings are in
    let half : IsHalfMade (map_of c.args.records.now) c.args.history.now c.args.planned.plan.vertices _ (map_of c.make_vertices.new.records) c.make_vertices.new.history _ c.deref.result.now = record { told = told_of_plan _ c.args.history.now c.add_sides.new.history _ _ c.make_vertices.new.history _ same are c.make_vertices.ensures.told; kept = kept } in
    let layer = c.make_parts.ensures.layer in
    let before = c.make_vertices.ensures.layer in
    let name = one_name c.args.history.now.names c.draw-curve.result.0 c.args.history.now.next c.draw-curve.ensures.number in
    let pieces = layer.pieces ∙ before.pieces ∙ c.add_sides.ensures.pieces ∙ ap (λ ks. ks ++ path_pieces c.draw-curve.result.0 c.args.sides.now) c.draw-curve.ensures.pieces in
    let names = layer.names ∙ before.names ∙ c.add_sides.ensures.names ∙ c.draw-curve.ensures.names ∙ name in
    let next = layer.next ∙ before.next ∙ c.add_sides.ensures.next ∙ c.draw-curve.ensures.next in
    (layer_made (path_curve planned) half (map_of c.make_parts.new.records) c.make_parts.new.history _ c.make_parts.ensures.told c.make_parts.ensures.strands pieces names next).0

pub returns-clause-edit : goal.returns-clause-edit
returns-clause-edit g c =
    let planned : IsPathPlanned (map_of c.args.records.now) c.args.history.now c.args.sides.now c.args.planned.plan c.deref-2.result.now c.draw-curve.result.0 = record { layer = c.requires.layer; sides = are_sides c.args.sides.now c.requires.sides c.add_sides.ensures.ends; zone = c.requires.zone; parts = subst (AreAllParts (points_of_meetings c.args.planned.plan.vertices) c.args.sides.now) (sym c.deref-2.ensures.value) c.requires.parts; number = c.draw-curve.ensures.number } in
    let same : SameStrands c.args.history.now c.add_sides.new.history = λ d. c.add_sides.ensures.strands d ∙ c.draw-curve.ensures.strands d in
    let are = c.into_vertices-meetings.ensures in
    let kept = ap points_of_meetings c.deref.ensures.value ∙ c.make_vertices.ensures.points ∙ ap points_of_meetings are in
    let half : IsHalfMade (map_of c.args.records.now) c.args.history.now c.args.planned.plan.vertices _ (map_of c.make_vertices.new.records) c.make_vertices.new.history _ c.deref.result.now = record { told = told_of_plan _ c.args.history.now c.add_sides.new.history _ _ c.make_vertices.new.history _ same are c.make_vertices.ensures.told; kept = kept } in
    let layer = c.make_parts.ensures.layer in
    let before = c.make_vertices.ensures.layer in
    let name = one_name c.args.history.now.names c.draw-curve.result.0 c.args.history.now.next c.draw-curve.ensures.number in
    let pieces = layer.pieces ∙ before.pieces ∙ c.add_sides.ensures.pieces ∙ ap (λ ks. ks ++ path_pieces c.draw-curve.result.0 c.args.sides.now) c.draw-curve.ensures.pieces in
    let names = layer.names ∙ before.names ∙ c.add_sides.ensures.names ∙ c.draw-curve.ensures.names ∙ name in
    let next = layer.next ∙ before.next ∙ c.add_sides.ensures.next ∙ c.draw-curve.ensures.next in
    (layer_made (path_curve planned) half (map_of c.make_parts.new.records) c.make_parts.new.history _ c.make_parts.ensures.told c.make_parts.ensures.strands pieces names next).1

pub returns-clause-told : goal.returns-clause-told
returns-clause-told g c =
    let planned : IsPathPlanned (map_of c.args.records.now) c.args.history.now c.args.sides.now c.args.planned.plan c.deref-2.result.now c.draw-curve.result.0 = record { layer = c.requires.layer; sides = are_sides c.args.sides.now c.requires.sides c.add_sides.ensures.ends; zone = c.requires.zone; parts = subst (AreAllParts (points_of_meetings c.args.planned.plan.vertices) c.args.sides.now) (sym c.deref-2.ensures.value) c.requires.parts; number = c.draw-curve.ensures.number } in
    let same : SameStrands c.args.history.now c.add_sides.new.history = λ d. c.add_sides.ensures.strands d ∙ c.draw-curve.ensures.strands d in
    let are = c.into_vertices-meetings.ensures in
    let kept = ap points_of_meetings c.deref.ensures.value ∙ c.make_vertices.ensures.points ∙ ap points_of_meetings are in
    let half : IsHalfMade (map_of c.args.records.now) c.args.history.now c.args.planned.plan.vertices _ (map_of c.make_vertices.new.records) c.make_vertices.new.history _ c.deref.result.now = record { told = told_of_plan _ c.args.history.now c.add_sides.new.history _ _ c.make_vertices.new.history _ same are c.make_vertices.ensures.told; kept = kept } in
    all_told (path_curve planned) half (map_of c.make_parts.new.records) c.make_parts.new.history _ c.make_parts.ensures.told
