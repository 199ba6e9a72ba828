use Rattle.std.proofs.Common.{◌≡◌, not, ap, ◌∙◌, refl}
use Rattle.std.specs.List.{filter}
use Rattle.plane_graphs.specs.Graph.{same_curve}
use Rattle.edit_steps.specs.Edits.{Drop}
use Rattle.edit_steps.specs.Layer.{layer_after}
use Rattle.slab_laws.specs.View.{View}
use Rattle.dcel_records.specs.SoundMaps.{map_of}
use Rattle.curve_history.specs.Past.{curves_on}
use Rattle.told_steps.specs.RecordLayers.{IsLayer, layer_of}
use Rattle.dcel_records.proofs.Maps.{one_map}
use Rattle.told_steps.proofs.Begun.{begun_in_step, still_in_step, told_of_edit}
use Rattle.segment_remove.proofs.DropMade.{drop_layer, drop_told, keys_have}
use Rattle.segment_remove.proofs.EndsOf.{one_ends}
use Rattle.segment_remove.proofs.SameVertices.{still_ascend, still_have}
use Rattle.segment_remove.proofs.drops.remove_curve.Given as given
use Rattle.segment_remove.proofs.drops.remove_curve.Goals as goal

pub ends_in_order-requires-clause-have : goal.ends_in_order-requires-clause-have
ends_in_order-requires-clause-have g c = rw c.deref.ensures.value (keys_have (map_of c.args.records.now) c.args.history.now c.requires.layer c.args.curve.0 c.in_ok-edges.edges.items c.in_ok-edges.ensures.all)

pub release_curve-requires-clause-in_step : goal.release_curve-requires-clause-in_step
release_curve-requires-clause-in_step g c = begun_in_step (map_of c.args.records.now) c.args.history.now (map_of c.make_room_of_cycles.new.records) c.args.history.now (one_map c.make_room_of_cycles.new.records c.args.records.now c.make_room_of_cycles.ensures.graph c.make_room_of_cycles.ensures.tables) (λ d. refl) c.begin.ensures.begun c.requires.map.map.sound c.requires.layer c.requires.watched

pub release_curve-requires-clause-all : goal.release_curve-requires-clause-all
release_curve-requires-clause-all g c = rw c.deref-2.ensures.value c.in_ok-edges.ensures.all

pub returns-clause-told : goal.returns-clause-told
returns-clause-told g c =
    told_of_edit (map_of c.args.records.now) c.args.history.now (map_of c.args.records.now) c.args.history.now refl (λ d. refl) c.begin.ensures.begun _ (map_of c.remove_redundant.new.records) (curves_on c.remove_redundant.new.history) _
    (drop_told (map_of c.args.records.now) c.args.history.now c.requires.layer c.args.curve.0 _ (map_of c.make_room_of_cycles.new.records) (map_of c.release_curve.new.records) (one_map c.make_room_of_cycles.new.records c.args.records.now c.make_room_of_cycles.ensures.graph c.make_room_of_cycles.ensures.tables) c.release_curve.new.history c.drop_name.new.self c.drop_name.ensures.strands _ c.release_curve.ensures.told c.release_curve.ensures.sides c.release_curve.ensures.vertices c.in_ok-edges.edges.items c.in_ok-edges.ensures.all c.deref-3.result.now (one_ends c.args.records.now.graph c.in_ok-edges.edges.items _ c.in_ok-vertices.vertices.items c.deref-3.result.now c.deref.ensures.value c.deref-3.ensures.value c.in_ok-vertices.ensures) (map_of c.remove_redundant.new.records) c.remove_redundant.new.history _ c.remove_redundant.ensures.tidied)

pub remove_redundant-requires-clause-in_step : goal.remove_redundant-requires-clause-in_step
remove_redundant-requires-clause-in_step g c = still_in_step (map_of c.release_curve.new.records) c.release_curve.new.history (map_of c.release_curve.new.records) c.drop_name.new.self refl c.drop_name.ensures.curves c.release_curve.ensures.in_step

pub remove_redundant-requires-clause-have : goal.remove_redundant-requires-clause-have
remove_redundant-requires-clause-have g c = still_have c.args.records.now.graph c.release_curve.new.records.graph (c.release_curve.ensures.vertices ∙ ap (λ (z : View). z.vertices) c.make_room_of_cycles.ensures.graph) c.deref-3.result.now (one_ends c.args.records.now.graph c.in_ok-edges.edges.items _ c.in_ok-vertices.vertices.items c.deref-3.result.now c.deref.ensures.value c.deref-3.ensures.value c.in_ok-vertices.ensures).have

pub remove_redundant-requires-clause-ascend : goal.remove_redundant-requires-clause-ascend
remove_redundant-requires-clause-ascend g c = still_ascend c.args.records.now.graph c.release_curve.new.records.graph (c.release_curve.ensures.vertices ∙ ap (λ (z : View). z.vertices) c.make_room_of_cycles.ensures.graph) c.deref-3.result.now (one_ends c.args.records.now.graph c.in_ok-edges.edges.items _ c.in_ok-vertices.vertices.items c.deref-3.result.now c.deref.ensures.value c.deref-3.ensures.value c.in_ok-vertices.ensures).ascend

after : (g : given.Over) (c : goal.After-drop-edges-2 g) → IsLayer c.remove_redundant.new.records.graph c.remove_redundant.new.history × (layer_of c.remove_redundant.new.records.graph c.remove_redundant.new.history ≡ layer_after (Drop c.args.curve.0) (layer_of c.args.records.now.graph c.args.history.now))
after g c =
    let released = c.release_curve.ensures.layer in
    let dropped = c.drop_name.ensures in
    let tidied = c.remove_redundant.ensures.layer in
    drop_layer (map_of c.args.records.now) c.args.history.now c.requires.layer c.args.curve.0 _ (map_of c.make_room_of_cycles.new.records) (map_of c.release_curve.new.records) (one_map c.make_room_of_cycles.new.records c.args.records.now c.make_room_of_cycles.ensures.graph c.make_room_of_cycles.ensures.tables) c.release_curve.new.history c.drop_name.new.self c.drop_name.ensures.strands _ c.release_curve.ensures.told c.release_curve.ensures.sides c.release_curve.ensures.vertices c.in_ok-edges.edges.items c.in_ok-edges.ensures.all c.deref-3.result.now (one_ends c.args.records.now.graph c.in_ok-edges.edges.items _ c.in_ok-vertices.vertices.items c.deref-3.result.now c.deref.ensures.value c.deref-3.ensures.value c.in_ok-vertices.ensures) (map_of c.remove_redundant.new.records) c.remove_redundant.new.history _ c.remove_redundant.ensures.tidied
    (tidied.pieces ∙ dropped.pieces ∙ ap (filter (λ k. not (same_curve k.curve c.args.curve.0))) released.pieces)
    (tidied.names ∙ dropped.names ∙ ap (filter (λ n. not (same_curve n c.args.curve.0))) released.names)
    (tidied.next ∙ dropped.next ∙ released.next)

pub returns-clause-layer : goal.returns-clause-layer
returns-clause-layer g c = (after g c).0

pub returns-clause-edit : goal.returns-clause-edit
returns-clause-edit g c = (after g c).1
