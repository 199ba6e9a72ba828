use Rattle.std.proofs.Common.{refl, sym, ap, ◌∙◌}
use Rattle.edit_steps.specs.Edits.{Unpin, steps}
use Rattle.edit_steps.specs.Layer.{layer_after}
use Rattle.edit_steps.proofs.Refusals.{unpin_none, unpin_allowed}
use Rattle.dcel_records.specs.SoundMaps.{map_of}
use Rattle.curve_history.specs.Past.{curves_on}
use Rattle.told_steps.specs.RecordLayers.{layer_of}
use Rattle.told_steps.proofs.Begun.{begun_in_step, told_of_edit}
use Rattle.told_steps.proofs.ToldTogether.{told_runs_lawful}
use Rattle.told_steps.proofs.SidedRuns.{sided}
use Rattle.pin_points.proofs.Spotted.{none_pinned, pinned_vertex}
use Rattle.pin_points.proofs.Unpinning.{clear_has, clear_unpinned, unpin_told, unpin_layer}
use Rattle.pin_points.proofs.Outcomes.{history_kept, layer_kept, records_fit, records_kept}
use Rattle.pin_points.proofs.pins.unpin.Goals as goal

pub returns-in_default : goal.returns-in_default
returns-in_default g c = record {
  layer = c.requires.layer;
  map = c.requires.map;
  watched = c.requires.watched;
  edit = tt;
  told = tt;
  refused = unpin_none (layer_of c.args.records.now.graph c.args.history.now) c.args.p.now (none_pinned c.args.records.now.graph (curves_on c.args.history.now) c.requires.layer.sound c.args.p.now c.in_default.ensures);
  graph = refl;
  tables = refl;
  same_layer = layer_kept _;
  same_curves = λ d. refl;
  records_capacity = records_kept _;
  history_capacity = history_kept _;
  untold = refl;
}

pub pinned-requires : goal.pinned-requires
pinned-requires g c = c.in-Some.ensures.0

pub returns-then-not-pinned : goal.returns-then-not-pinned
returns-then-not-pinned g c =
    let e = c.in-Some.ensures in record {
      layer = c.requires.layer;
      map = c.requires.map;
      watched = c.requires.watched;
      edit = tt;
      told = tt;
      refused = unpin_none (layer_of c.args.records.now.graph c.args.history.now) c.args.p.now (pinned_vertex c.args.records.now.graph (curves_on c.args.history.now) c.requires.layer.sound c.args.p.now c.in-Some.vertex e.0 e.1 ∙ sym c.pinned.ensures ∙ c.if-not-pinned.true);
      graph = refl;
      tables = refl;
      same_layer = layer_kept _;
      same_curves = λ d. refl;
      records_capacity = records_kept _;
      history_capacity = history_kept _;
      untold = refl;
    }

pub clear_pin-requires : goal.clear_pin-requires
clear_pin-requires g c =
    let v = map_of c.args.records.now in
    let r = c.args.history.now in record {
      in_step = begun_in_step v r v r refl (λ d. refl) c.begin.ensures.begun c.requires.map.map.sound c.requires.layer c.requires.watched;
      map = c.requires.map;
      vertex = c.in-Some.ensures.0;
    }

pub remove_if_redundant-requires : goal.remove_if_redundant-requires
remove_if_redundant-requires g c = record {
  in_step = c.clear_pin.ensures.in_step;
  map = c.clear_pin.ensures.map;
  vertex = clear_has (map_of c.args.records.now) c.args.history.now c.requires.layer c.in-Some.vertex c.in-Some.ensures.0 (sym c.pinned.ensures ∙ c.if-not-pinned.false) (map_of c.clear_pin.new.records) c.clear_pin.ensures.graph;
  unpinned = clear_unpinned (map_of c.args.records.now) c.args.history.now c.requires.layer c.in-Some.vertex c.in-Some.ensures.0 (sym c.pinned.ensures ∙ c.if-not-pinned.false) (map_of c.clear_pin.new.records) c.clear_pin.ensures.graph;
}

pub returns : goal.returns
returns g c =
    let v = map_of c.args.records.now in
    let r = c.args.history.now in
    let x = map_of c.remove_if_redundant.new.records in
    let q = c.remove_if_redundant.new.history in
    let e = c.in-Some.ensures in
    let after = unpin_layer v r c.requires.layer c.in-Some.vertex c.in-Some.ensures.0 (sym c.pinned.ensures ∙ c.if-not-pinned.false) (map_of c.clear_pin.new.records) c.clear_pin.ensures.graph _ _ (sided c.clear_pin.ensures.told c.clear_pin.ensures.strands) x q _ c.remove_if_redundant.ensures.tidied c.remove_if_redundant.ensures.layer in record {
      layer = after.0;
      map = c.remove_if_redundant.ensures.map;
      watched = c.remove_if_redundant.ensures.in_step.holds;
      edit = after.1 ∙ ap (λ z. layer_after (Unpin z) (layer_of v.graph r)) c.in-Some.ensures.1;
      told = told_of_edit v r v r refl (λ d. refl) c.begin.ensures.begun _ x (curves_on q) _
          (told_runs_lawful.same_steps v (curves_on r) _ _ _ x (curves_on q) _ (ap (λ z. steps (Unpin z) (layer_of v.graph r).present) c.in-Some.ensures.1)
          (unpin_told v r c.requires.layer c.in-Some.vertex c.in-Some.ensures.0 (sym c.pinned.ensures ∙ c.if-not-pinned.false) (map_of c.clear_pin.new.records) c.clear_pin.ensures.graph _ _ (sided c.clear_pin.ensures.told c.clear_pin.ensures.strands) x q _ c.remove_if_redundant.ensures.tidied).told);
      refused = unpin_allowed (layer_of c.args.records.now.graph c.args.history.now) c.args.p.now (pinned_vertex c.args.records.now.graph (curves_on c.args.history.now) c.requires.layer.sound c.args.p.now c.in-Some.vertex e.0 e.1 ∙ sym c.pinned.ensures ∙ c.if-not-pinned.false);
      graph = tt;
      tables = tt;
      same_layer = tt;
      same_curves = tt;
      records_capacity = records_fit _ _ _ _ _ c.clear_pin.ensures.spare c.remove_if_redundant.ensures.records_capacity;
      history_capacity = c.remove_if_redundant.ensures.history_capacity;
      untold = tt;
    }
