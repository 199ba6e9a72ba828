use Rattle.std.proofs.Common.{◌≡◌, length, refl, sym, ap, ap₂, ◌∙◌, subst}
use Rattle.std.specs.List.{flat_map}
use Rattle.edit_steps.specs.Layer.{layer_after}
use Rattle.edit_steps.specs.Steps.{cut_piece, with_cut}
use Rattle.edit_steps.proofs.Refusals.{no_memory, cut_without, cut_full, cut_allowed}
use Rattle.slab_laws.specs.Sound.{edge_between}
use Rattle.dcel_records.specs.SoundMaps.{map_of}
use Rattle.curve_history.specs.Cuts.{IsPlanOfCut}
use Rattle.curve_history.specs.Past.{curves_on}
use Rattle.told_steps.specs.RecordLayers.{IsLayer, layer_of}
use Rattle.told_steps.proofs.Moved.{layer_stays}
use Rattle.dcel_records.proofs.Maps.{one_map}
use Rattle.told_steps.proofs.Begun.{begun_in_step, still_watched, told_of_edit}
use Rattle.segment_remove.specs.Refused.{cut_between, cut_said}
use Rattle.segment_remove.specs.declared.cuts.CutError.TheVariants.{NoMemory}
use Rattle.segment_remove.proofs.CutMade.{at_s, at_t, both_ascend, both_have, counted, cut_layer, cut_told, has_s, has_t}
use Rattle.segment_remove.proofs.Joined.{joined, not_joined}
use Rattle.segment_remove.proofs.Refusals.{fits, passes}
use Rattle.segment_remove.proofs.cuts.remove_edge.Given as given
use Rattle.segment_remove.proofs.cuts.remove_edge.Goals as goal

pub returns-in_default-clause-refused : goal.returns-in_default-clause-refused
returns-in_default-clause-refused g c = cut_without c.args.pieces (layer_of c.args.records.now.graph c.args.history.now) (edge_between c.args.p.now c.args.q.now).low (edge_between c.args.p.now c.args.q.now).high (not_joined c.args.records.now.graph c.args.history.now c.requires.layer (edge_between c.args.p.now c.args.q.now) c.in_default.ensures)

pub point-low-requires : goal.point-low-requires
point-low-requires g c = has_s (map_of c.args.records.now) c.args.history.now c.requires.layer (edge_between c.args.p.now c.args.q.now) c.in-Some.d c.in-Some.ensures c.source-source.result c.target-target.result c.source-source.ensures c.target-target.ensures

pub point-high-requires : goal.point-high-requires
point-high-requires g c = has_t (map_of c.args.records.now) c.args.history.now c.requires.layer (edge_between c.args.p.now c.args.q.now) c.in-Some.d c.in-Some.ensures c.source-source.result c.target-target.result c.source-source.ensures c.target-target.ensures

pub returns-then-plan-from-clause-refused : goal.returns-then-plan-from-clause-refused
returns-then-plan-from-clause-refused g c =
    cut_full c.args.pieces (layer_of c.args.records.now.graph c.args.history.now) (edge_between c.args.p.now c.args.q.now).low (edge_between c.args.p.now c.args.q.now).high (joined c.args.records.now.graph c.args.history.now c.requires.layer (edge_between c.args.p.now c.args.q.now) c.in-Some.d c.in-Some.ensures)
    (passes c.args.pieces c.from.result c.plan_cut-plan.result.left (length (with_cut (layer_of c.args.records.now.graph c.args.history.now).present (edge_between c.args.p.now c.args.q.now).low (edge_between c.args.p.now c.args.q.now).high).pieces) c.from.ensures (counted (map_of c.args.records.now) c.args.history.now c.requires.layer (edge_between c.args.p.now c.args.q.now) c.in-Some.d c.in-Some.ensures c.source-source.result c.target-target.result c.source-source.ensures c.target-target.ensures c.point-low.result c.point-high.result c.point-low.ensures c.point-high.ensures c.plan_cut-plan.result.left c.plan_cut-plan.ensures.left) c.if-plan-from.true)

pub returns-in_err-make_room-clause-layer : goal.returns-in_err-make_room-clause-layer
returns-in_err-make_room-clause-layer g c = layer_stays c.args.records.now.graph c.make_room.new.records.graph c.args.history.now c.make_room.new.history c.make_room.ensures.graph c.make_room.ensures.layer c.make_room.ensures.strands c.requires.layer

pub returns-in_err-make_room-clause-watched : goal.returns-in_err-make_room-clause-watched
returns-in_err-make_room-clause-watched g c = still_watched (map_of c.args.records.now) c.args.history.now (map_of c.make_room.new.records) c.make_room.new.history (one_map c.make_room.new.records c.args.records.now c.make_room.ensures.graph c.make_room.ensures.tables) c.make_room.ensures.curves _ c.requires.watched

pub returns-in_err-make_room-clause-refused : goal.returns-in_err-make_room-clause-refused
returns-in_err-make_room-clause-refused g c =
    no_memory cut_said NoMemory _ c.from_residual.result c.from_residual.ensures.1 refl (cut_allowed c.args.pieces (layer_of c.args.records.now.graph c.args.history.now) (edge_between c.args.p.now c.args.q.now).low (edge_between c.args.p.now c.args.q.now).high (joined c.args.records.now.graph c.args.history.now c.requires.layer (edge_between c.args.p.now c.args.q.now) c.in-Some.d c.in-Some.ensures)
    (fits c.args.pieces c.from.result c.plan_cut-plan.result.left (length (with_cut (layer_of c.args.records.now.graph c.args.history.now).present (edge_between c.args.p.now c.args.q.now).low (edge_between c.args.p.now c.args.q.now).high).pieces) c.from.ensures (counted (map_of c.args.records.now) c.args.history.now c.requires.layer (edge_between c.args.p.now c.args.q.now) c.in-Some.d c.in-Some.ensures c.source-source.result c.target-target.result c.source-source.ensures c.target-target.ensures c.point-low.result c.point-high.result c.point-low.ensures c.point-high.ensures c.plan_cut-plan.result.left c.plan_cut-plan.ensures.left) c.if-plan-from.false))

pub cut_pieces-requires-clause-plan : goal.cut_pieces-requires-clause-plan
cut_pieces-requires-clause-plan g c = subst (λ ks. IsPlanOfCut c.point-low.result c.point-high.result ks c.plan_cut-plan.result) (sym c.make_room.ensures.layer.pieces) c.plan_cut-plan.ensures

pub remove_edge-requires-clause-in_step : goal.remove_edge-requires-clause-in_step
remove_edge-requires-clause-in_step g c = begun_in_step (map_of c.args.records.now) c.args.history.now (map_of c.make_room.new.records) c.cut_pieces.new.self (one_map c.make_room.new.records c.args.records.now c.make_room.ensures.graph c.make_room.ensures.tables) (λ d. c.cut_pieces.ensures.curves d ∙ c.make_room.ensures.curves d) c.begin.ensures.begun c.requires.map.map.sound c.requires.layer c.requires.watched

pub remove_redundant-requires-clause-have : goal.remove_redundant-requires-clause-have
remove_redundant-requires-clause-have g c = both_have (map_of c.args.records.now) c.args.history.now c.requires.layer (edge_between c.args.p.now c.args.q.now) c.in-Some.d c.in-Some.ensures c.source-source.result c.target-target.result c.source-source.ensures c.target-target.ensures (map_of c.make_room.new.records) (one_map c.make_room.new.records c.args.records.now c.make_room.ensures.graph c.make_room.ensures.tables) (map_of c.remove_edge.new.records) c.remove_edge.ensures.graph

pub remove_redundant-requires-clause-ascend : goal.remove_redundant-requires-clause-ascend
remove_redundant-requires-clause-ascend g c = both_ascend (map_of c.args.records.now) c.args.history.now c.requires.layer (edge_between c.args.p.now c.args.q.now) c.in-Some.d c.in-Some.ensures c.source-source.result c.target-target.result c.source-source.ensures c.target-target.ensures (map_of c.make_room.new.records) (one_map c.make_room.new.records c.args.records.now c.make_room.ensures.graph c.make_room.ensures.tables) (map_of c.remove_edge.new.records) c.remove_edge.ensures.graph

pub returns-clause-told : goal.returns-clause-told
returns-clause-told g c =
    told_of_edit (map_of c.args.records.now) c.args.history.now (map_of c.args.records.now) c.args.history.now refl (λ d. refl) c.begin.ensures.begun _ (map_of c.remove_redundant.new.records) (curves_on c.remove_redundant.new.history) _
    (cut_told (map_of c.args.records.now) c.args.history.now c.requires.layer (edge_between c.args.p.now c.args.q.now) c.in-Some.d c.in-Some.ensures c.source-source.result c.target-target.result c.source-source.ensures c.target-target.ensures (map_of c.make_room.new.records) (one_map c.make_room.new.records c.args.records.now c.make_room.ensures.graph c.make_room.ensures.tables) (map_of c.remove_edge.new.records) c.remove_edge.ensures.graph c.cut_pieces.new.self (λ d. c.cut_pieces.ensures.strands d ∙ c.make_room.ensures.strands d) _ c.remove_edge.new.history _ c.remove_edge.ensures.told c.remove_edge.ensures.strands (map_of c.remove_redundant.new.records) c.remove_redundant.new.history _ c.remove_redundant.ensures.tidied)

after : (g : given.Over) (c : goal.After-remove_redundant g) → IsLayer c.remove_redundant.new.records.graph c.remove_redundant.new.history × (layer_of c.remove_redundant.new.records.graph c.remove_redundant.new.history ≡ layer_after (cut_between c.args.p.now c.args.q.now) (layer_of c.args.records.now.graph c.args.history.now))
after g c =
    let room = c.make_room.ensures.layer in
    let cut = c.cut_pieces.ensures in
    let released = c.remove_edge.ensures.layer in
    let tidied = c.remove_redundant.ensures.layer in
    let low = c.point-low.ensures ∙ at_s (map_of c.args.records.now) c.args.history.now c.requires.layer (edge_between c.args.p.now c.args.q.now) c.in-Some.d c.in-Some.ensures c.source-source.result c.target-target.result c.source-source.ensures c.target-target.ensures in
    let high = c.point-high.ensures ∙ at_t (map_of c.args.records.now) c.args.history.now c.requires.layer (edge_between c.args.p.now c.args.q.now) c.in-Some.d c.in-Some.ensures c.source-source.result c.target-target.result c.source-source.ensures c.target-target.ensures in
    cut_layer (map_of c.args.records.now) c.args.history.now c.requires.layer (edge_between c.args.p.now c.args.q.now) c.in-Some.d c.in-Some.ensures c.source-source.result c.target-target.result c.source-source.ensures c.target-target.ensures (map_of c.make_room.new.records) (one_map c.make_room.new.records c.args.records.now c.make_room.ensures.graph c.make_room.ensures.tables) (map_of c.remove_edge.new.records) c.remove_edge.ensures.graph c.cut_pieces.new.self (λ d. c.cut_pieces.ensures.strands d ∙ c.make_room.ensures.strands d) _ c.remove_edge.new.history _ c.remove_edge.ensures.told c.remove_edge.ensures.strands (map_of c.remove_redundant.new.records) c.remove_redundant.new.history _ c.remove_redundant.ensures.tidied
    (tidied.pieces ∙ released.pieces ∙ cut.pieces ∙ ap (flat_map (cut_piece c.point-low.result c.point-high.result)) room.pieces ∙ ap₂ (λ p q. flat_map (cut_piece p q) c.args.history.now.pieces) low high)
    (tidied.names ∙ released.names ∙ cut.names ∙ room.names)
    (tidied.next ∙ released.next ∙ cut.next ∙ room.next)

pub returns-clause-layer : goal.returns-clause-layer
returns-clause-layer g c = (after g c).0

pub returns-clause-edit : goal.returns-clause-edit
returns-clause-edit g c = (after g c).1

pub returns-clause-refused : goal.returns-clause-refused
returns-clause-refused g c =
    cut_allowed c.args.pieces (layer_of c.args.records.now.graph c.args.history.now) (edge_between c.args.p.now c.args.q.now).low (edge_between c.args.p.now c.args.q.now).high (joined c.args.records.now.graph c.args.history.now c.requires.layer (edge_between c.args.p.now c.args.q.now) c.in-Some.d c.in-Some.ensures)
    (fits c.args.pieces c.from.result c.plan_cut-plan.result.left (length (with_cut (layer_of c.args.records.now.graph c.args.history.now).present (edge_between c.args.p.now c.args.q.now).low (edge_between c.args.p.now c.args.q.now).high).pieces) c.from.ensures (counted (map_of c.args.records.now) c.args.history.now c.requires.layer (edge_between c.args.p.now c.args.q.now) c.in-Some.d c.in-Some.ensures c.source-source.result c.target-target.result c.source-source.ensures c.target-target.ensures c.point-low.result c.point-high.result c.point-low.ensures c.point-high.ensures c.plan_cut-plan.result.left c.plan_cut-plan.ensures.left) c.if-plan-from.false)
