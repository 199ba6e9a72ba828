use Rattle.std.proofs.Common.{◌≡◌, Result, Ok, Err, [], ◌∷◌, refl, sym, ap, subst, ◌∙◌}
use Rattle.plane_graphs.proofs.Lines.{point_is_proper}
use Rattle.edit_steps.specs.Steps.{SplitEdge}
use Rattle.edit_steps.proofs.Refusals.{no_memory, split_without, split_outside, split_full, split_allowed}
use Rattle.slab_laws.specs.Sound.{edge_between}
use Rattle.slab_laws.specs.View.{point_in, source_in, target_in}
use Rattle.dcel_records.specs.SoundMaps.{map_of}
use Rattle.edge_split_merge.specs.Splits.{CanSplit}
use Rattle.told_steps.specs.RecordLayers.{layer_of}
use Rattle.told_steps.proofs.Moved.{same_layers, layer_stays}
use Rattle.pin_points.specs.Splits.{split_said}
use Rattle.pin_points.specs.declared.split.SplitError.{SplitError}
use Rattle.pin_points.specs.declared.split.SplitError.TheVariants.{NoEdge, NotInside, Full, NoMemory}
use Rattle.observer_bus.proofs.Heard.{not_ok, on_err}
use Rattle.pin_points.proofs.Outcomes.{layer_kept, not_both}
use Rattle.dcel_records.proofs.Maps.{one_map}
use Rattle.told_steps.proofs.Begun.{begun_in_step, sided_of_edit, still_watched}
use Rattle.told_steps.proofs.SidedRuns.{sided, sided_as}
use Rattle.pin_points.proofs.Splitting.{no_edge, is_edge, is_inside, not_inside, limit_met, split_told, split_layer}
use Rattle.pin_points.proofs.split.split_edge.Goals as goal

-- another outcome than want of memory
abbrev IsOther : {T : Type 0} → Result T SplitError → Type 0
IsOther (Ok x) = Unit {0}
IsOther (Err NoEdge) = Unit {0}
IsOther (Err NotInside) = Unit {0}
IsOther (Err (Full limit)) = Unit {0}
IsOther (Err NoMemory) = ⊥

other : {T : Type 0} (r : Result T SplitError) → IsOther r → r ≡ Err NoMemory → ⊥
other r o is = subst IsOther is o

pub edge_dart-requires : goal.edge_dart-requires
edge_dart-requires g c = c.requires.layer.sound

pub returns-in_default : goal.returns-in_default
returns-in_default g c = record {
  layer = c.requires.layer;
  map = c.requires.map;
  watched = c.requires.watched;
  edit = tt;
  told = tt;
  refused = split_without c.args.pins (layer_of c.args.records.now.graph c.args.history.now) (edge_between c.args.p.now c.args.q.now).low (edge_between c.args.p.now c.args.q.now).high c.args.r.now (no_edge (map_of c.args.records.now) c.args.history.now c.requires.layer (edge_between c.args.p.now c.args.q.now) c.in_default.ensures);
  room = λ room is. other _ tt is;
  graph = refl;
  tables = refl;
  same_layer = layer_kept _;
  same_curves = λ d. refl;
  untold = refl;
}

pub is_inside-requires : goal.is_inside-requires
is_inside-requires g c = record { sound = c.requires.layer.sound; forward = c.in-Some.ensures.forward }

pub returns-then-not-is_inside : goal.returns-then-not-is_inside
returns-then-not-is_inside g c = record {
  layer = c.requires.layer;
  map = c.requires.map;
  watched = c.requires.watched;
  edit = tt;
  told = tt;
  refused = split_outside c.args.pins (layer_of c.args.records.now.graph c.args.history.now) (edge_between c.args.p.now c.args.q.now).low (edge_between c.args.p.now c.args.q.now).high c.args.r.now (is_edge (map_of c.args.records.now) c.args.history.now c.requires.layer (edge_between c.args.p.now c.args.q.now) c.in-Some.dart c.in-Some.ensures)
      (not_inside (map_of c.args.records.now) c.args.history.now c.requires.layer (edge_between c.args.p.now c.args.q.now) c.in-Some.dart c.in-Some.ensures c.args.r.now (point_is_proper c.args.r.now c.laws.ensures) (sym c.is_inside.ensures ∙ c.if-not-is_inside.true));
  room = λ room is. other _ tt is;
  graph = refl;
  tables = refl;
  same_layer = layer_kept _;
  same_curves = λ d. refl;
  untold = refl;
}

pub returns-then-is_full : goal.returns-then-is_full
returns-then-is_full g c = record {
  layer = c.requires.layer;
  map = c.requires.map;
  watched = c.requires.watched;
  edit = tt;
  told = tt;
  refused = split_full c.args.pins (layer_of c.args.records.now.graph c.args.history.now) (edge_between c.args.p.now c.args.q.now).low (edge_between c.args.p.now c.args.q.now).high c.args.r.now (is_edge (map_of c.args.records.now) c.args.history.now c.requires.layer (edge_between c.args.p.now c.args.q.now) c.in-Some.dart c.in-Some.ensures)
      (is_inside (map_of c.args.records.now) c.args.history.now c.requires.layer (edge_between c.args.p.now c.args.q.now) c.in-Some.dart c.in-Some.ensures c.args.r.now (point_is_proper c.args.r.now c.laws.ensures) (sym c.is_inside.ensures ∙ c.if-not-is_inside.false)) (limit_met (map_of c.args.records.now) c.args.history.now c.requires.layer (edge_between c.args.p.now c.args.q.now) c.args.pins c.args.r.now (point_is_proper c.args.r.now c.laws.ensures) _ (sym c.is_full.ensures ∙ c.if-is_full.true));
  room = λ room is. other _ tt is;
  graph = refl;
  tables = refl;
  same_layer = layer_kept _;
  same_curves = λ d. refl;
  untold = refl;
}

pub returns-in_err-make_room : goal.returns-in_err-make_room
returns-in_err-make_room g c =
    let m = c.make_room.ensures in
    let back = c.from_residual.result in record {
      layer = layer_stays c.args.records.now.graph c.make_room.new.records.graph c.args.history.now c.make_room.new.history m.graph m.layer m.strands c.requires.layer;
      map = c.make_room.ensures.map c.requires.map;
      watched = still_watched (map_of c.args.records.now) c.args.history.now (map_of c.make_room.new.records) c.make_room.new.history (one_map c.make_room.new.records c.args.records.now c.make_room.ensures.graph c.make_room.ensures.tables) c.make_room.ensures.curves _ c.requires.watched;
      edit = not_ok back _ _ c.from_residual.ensures.1;
      told = not_ok back _ _ c.from_residual.ensures.1;
      refused = no_memory split_said NoMemory _ c.from_residual.result c.from_residual.ensures.1 refl (split_allowed c.args.pins (layer_of c.args.records.now.graph c.args.history.now) (edge_between c.args.p.now c.args.q.now).low (edge_between c.args.p.now c.args.q.now).high c.args.r.now (is_edge (map_of c.args.records.now) c.args.history.now c.requires.layer (edge_between c.args.p.now c.args.q.now) c.in-Some.dart c.in-Some.ensures)
          (is_inside (map_of c.args.records.now) c.args.history.now c.requires.layer (edge_between c.args.p.now c.args.q.now) c.in-Some.dart c.in-Some.ensures c.args.r.now (point_is_proper c.args.r.now c.laws.ensures) (sym c.is_inside.ensures ∙ c.if-not-is_inside.false)) (limit_met (map_of c.args.records.now) c.args.history.now c.requires.layer (edge_between c.args.p.now c.args.q.now) c.args.pins c.args.r.now (point_is_proper c.args.r.now c.laws.ensures) _ (sym c.is_full.ensures ∙ c.if-is_full.false)));
      room = λ room. absurd (not_both c.make_room.result _ (m.succeeds (room c.in-Some.dart c.in-Some.ensures)) c.in_err-make_room.was);
      graph = on_err back _ m.graph;
      tables = on_err back _ m.tables;
      same_layer = on_err back _ m.layer;
      same_curves = on_err back _ m.curves;
      untold = on_err back _ refl;
    }

pub split_edge-vertex-requires : goal.split_edge-vertex-requires
split_edge-vertex-requires g c =
    let a = c.in-Some.ensures in
    let m = c.make_room.ensures in record {
      in_step = begun_in_step (map_of c.args.records.now) c.args.history.now (map_of c.make_room.new.records) c.make_room.new.history (one_map c.make_room.new.records c.args.records.now c.make_room.ensures.graph c.make_room.ensures.tables) c.make_room.ensures.curves c.begin.ensures.begun c.requires.map.map.sound c.requires.layer c.requires.watched;
      map = c.make_room.ensures.map c.requires.map;
      fits = subst (λ z. CanSplit z c.in-Some.dart c.args.r.now) (sym c.make_room.ensures.graph) (record { dart = a.forward.0; forward = a.forward.1; inside_edge = sym c.is_inside.ensures ∙ c.if-not-is_inside.false });
      vertices = c.in_ok-make_room.ensures.room.vertices;
      darts = c.in_ok-make_room.ensures.room.darts;
      pairs = c.in_ok-make_room.ensures.room.pairs;
    }

pub set_pin-requires : goal.set_pin-requires
set_pin-requires g c = record { in_step = c.split_edge-vertex.ensures.in_step; map = c.split_edge-vertex.ensures.map; vertex = c.split_edge-vertex.ensures.vertex.has }

pub returns : goal.returns
returns g c =
    let v = map_of c.args.records.now in
    let r = c.args.history.now in
    let p = c.args.r.now in
    let m = c.make_room.ensures in
    let x = map_of c.split_edge-vertex.new.records in
    let k = c.split_edge-vertex.new.history in
    let o = c.split_edge-vertex.ensures in
    let here = sided_of_edit v r (map_of c.make_room.new.records) c.make_room.new.history (one_map c.make_room.new.records c.args.records.now c.make_room.ensures.graph c.make_room.ensures.tables) m.strands c.begin.ensures.begun _ x k _ (sided o.told o.strands) in
    let there = sided_as v r _ _ _ x k _ here (ap (λ z. SplitEdge (point_in z (source_in z c.in-Some.dart)) (point_in z (target_in z c.in-Some.dart)) p ∷ []) m.graph) in
    let set = sided c.set_pin.ensures.told c.set_pin.ensures.strands in
    let after = split_layer v r c.requires.layer (edge_between c.args.p.now c.args.q.now) c.in-Some.dart c.in-Some.ensures p (point_is_proper p c.laws.ensures) (sym c.is_inside.ensures ∙ c.if-not-is_inside.false) _ x k _ there c.split_edge-vertex.result c.split_edge-vertex.ensures.vertex (map_of c.set_pin.new.records) k _ set (same_layers r c.make_room.new.history c.split_edge-vertex.new.history m.layer c.split_edge-vertex.ensures.layer) in record {
      layer = after.0;
      map = c.set_pin.ensures.map;
      watched = c.set_pin.ensures.in_step.holds;
      edit = after.1;
      told = (split_told v r c.requires.layer (edge_between c.args.p.now c.args.q.now) c.in-Some.dart c.in-Some.ensures p (point_is_proper p c.laws.ensures) (sym c.is_inside.ensures ∙ c.if-not-is_inside.false) _ x k _ there c.split_edge-vertex.result c.split_edge-vertex.ensures.vertex (map_of c.set_pin.new.records) k _ set).told;
      refused = split_allowed c.args.pins (layer_of c.args.records.now.graph c.args.history.now) (edge_between c.args.p.now c.args.q.now).low (edge_between c.args.p.now c.args.q.now).high c.args.r.now (is_edge (map_of c.args.records.now) c.args.history.now c.requires.layer (edge_between c.args.p.now c.args.q.now) c.in-Some.dart c.in-Some.ensures)
          (is_inside (map_of c.args.records.now) c.args.history.now c.requires.layer (edge_between c.args.p.now c.args.q.now) c.in-Some.dart c.in-Some.ensures c.args.r.now (point_is_proper c.args.r.now c.laws.ensures) (sym c.is_inside.ensures ∙ c.if-not-is_inside.false)) (limit_met (map_of c.args.records.now) c.args.history.now c.requires.layer (edge_between c.args.p.now c.args.q.now) c.args.pins c.args.r.now (point_is_proper c.args.r.now c.laws.ensures) _ (sym c.is_full.ensures ∙ c.if-is_full.false));
      room = λ room is. other _ tt is;
      graph = tt;
      tables = tt;
      same_layer = tt;
      same_curves = tt;
      untold = tt;
    }
