use Rattle.std.proofs.Common.{arith, ◌≡◌, Result, Ok, Err, refl, sym, ap, subst, ◌∙◌}
use Rattle.plane_graphs.proofs.Lines.{point_is_proper}
use Rattle.edit_steps.proofs.Refusals.{no_memory, pin_again, pin_full, pin_allowed}
use Rattle.dcel_records.specs.SoundMaps.{map_of}
use Rattle.curve_history.specs.Past.{curves_on}
use Rattle.dcel_records.specs.Spots.{IsMet, met_of}
use Rattle.face_location.specs.Spots.{IsSpotOf}
use Rattle.told_steps.specs.RecordLayers.{layer_of}
use Rattle.told_steps.proofs.Moved.{same_layers, layer_stays}
use Rattle.dcel_records.proofs.Maps.{one_map}
use Rattle.told_steps.proofs.Begun.{begun_in_step, moved, sided_of_edit, still_watched}
use Rattle.told_steps.proofs.SidedRuns.{sided, sided_as}
use Rattle.told_steps.specs.VertexMade.{IsPlaneWith, steps_at}
use Rattle.pin_points.specs.Pins.{HasRoomFor, is_pinned_met, pin_said}
use Rattle.pin_points.specs.declared.pins.PinError.{PinError}
use Rattle.pin_points.specs.declared.pins.PinError.TheVariants.{Pinned, Full, NoMemory}
use Rattle.observer_bus.proofs.Heard.{not_ok, on_err}
use Rattle.pin_points.proofs.Outcomes.{layer_kept, not_both}
use Rattle.pin_points.proofs.Pinning.{stays_plane, pin_told, pin_layer, counted}
use Rattle.pin_points.proofs.Spotted.{at_met, one_vertex, pinned_met, plane_with, two_darts}
use Rattle.pin_points.proofs.Fullness.{full_out, not_full_out}
use Rattle.pin_points.proofs.pins.pin.Goals as goal

-- another outcome than want of memory
abbrev IsOther : {T : Type 0} → Result T PinError → Type 0
IsOther (Ok x) = Unit {0}
IsOther (Err Pinned) = Unit {0}
IsOther (Err (Full limit)) = Unit {0}
IsOther (Err NoMemory) = ⊥

other : {T : Type 0} (r : Result T PinError) → IsOther r → r ≡ Err NoMemory → ⊥
other r o is = subst IsOther is o

pub is_pinned-requires : goal.is_pinned-requires
is_pinned-requires g c = (c.args.p.now, subst (IsMet c.args.records.now.graph c.args.p.now) (sym c.met-met.ensures) c.requires.spot.met)

pub returns-then-is_pinned : goal.returns-then-is_pinned
returns-then-is_pinned g c =
    let e = pinned_met c.args.records.now.graph (curves_on c.args.history.now) c.requires.layer.sound c.args.p.now (met_of c.args.at) c.requires.spot.met in record {
      layer = c.requires.layer;
      map = c.requires.map;
      watched = c.requires.watched;
      edit = tt;
      told = tt;
      refused = pin_again c.args.pins (layer_of c.args.records.now.graph c.args.history.now) c.args.p.now (e ∙ ap (is_pinned_met c.args.records.now.graph) (sym c.met-met.ensures) ∙ sym c.is_pinned.ensures ∙ c.if-is_pinned.true);
      room = λ room is. other _ tt is;
      graph = refl;
      tables = refl;
      same_layer = layer_kept _;
      same_curves = λ d. refl;
      untold = refl;
    }

pub returns-then-is_full : goal.returns-then-is_full
returns-then-is_full g c =
    let l = c.requires.layer in
    let e = pinned_met c.args.records.now.graph (curves_on c.args.history.now) l.sound c.args.p.now (met_of c.args.at) c.requires.spot.met in
    let n = counted (map_of c.args.records.now) c.args.history.now l c.args.p.now (point_is_proper c.args.p.now c.laws.ensures) in record {
      layer = c.requires.layer;
      map = c.requires.map;
      watched = c.requires.watched;
      edit = tt;
      told = tt;
      refused = pin_full c.args.pins (layer_of c.args.records.now.graph c.args.history.now) c.args.p.now (e ∙ ap (is_pinned_met c.args.records.now.graph) (sym c.met-met.ensures) ∙ sym c.is_pinned.ensures ∙ c.if-is_pinned.false) (full_out _ _ _ (sym c.is_full.ensures ∙ c.if-is_full.true) n);
      room = λ room is. other _ tt is;
      graph = refl;
      tables = refl;
      same_layer = layer_kept _;
      same_curves = λ d. refl;
      untold = refl;
    }

pub returns-in_err-make_room : goal.returns-in_err-make_room
returns-in_err-make_room g c =
    let m = c.make_room.ensures in
    let back = c.from_residual.result in
    let l = c.requires.layer in
    let e = pinned_met c.args.records.now.graph (curves_on c.args.history.now) l.sound c.args.p.now (met_of c.args.at) c.requires.spot.met in
    let n = counted (map_of c.args.records.now) c.args.history.now l c.args.p.now (point_is_proper c.args.p.now c.laws.ensures) in record {
      layer = layer_stays c.args.records.now.graph c.make_room.new.records.graph c.args.history.now c.make_room.new.history m.graph m.layer m.strands c.requires.layer;
      map = c.make_room.ensures.map c.requires.map;
      watched = still_watched (map_of c.args.records.now) c.args.history.now (map_of c.make_room.new.records) c.make_room.new.history (one_map c.make_room.new.records c.args.records.now c.make_room.ensures.graph c.make_room.ensures.tables) c.make_room.ensures.curves _ c.requires.watched;
      edit = not_ok back _ _ c.from_residual.ensures.1;
      told = not_ok back _ _ c.from_residual.ensures.1;
      refused = no_memory pin_said NoMemory _ c.from_residual.result c.from_residual.ensures.1 refl (pin_allowed c.args.pins (layer_of c.args.records.now.graph c.args.history.now) c.args.p.now (e ∙ ap (is_pinned_met c.args.records.now.graph) (sym c.met-met.ensures) ∙ sym c.is_pinned.ensures ∙ c.if-is_pinned.false) (not_full_out _ _ _ (sym c.is_full.ensures ∙ c.if-is_full.false) n));
      room = λ room. absurd (not_both c.make_room.result _ (m.succeeds (subst (λ z. HasRoomFor z c.args.records.now c.args.history.now) (sym c.met-met.ensures) room)) c.in_err-make_room.was);
      graph = on_err back _ m.graph;
      tables = on_err back _ m.tables;
      same_layer = on_err back _ m.layer;
      same_curves = on_err back _ m.curves;
      untold = on_err back _ refl;
    }

pub make_vertex-vertex-requires : goal.make_vertex-vertex-requires
make_vertex-vertex-requires g c =
    let v = map_of c.args.records.now in
    let r = c.args.history.now in
    let l = c.requires.layer in
    let p = c.args.p.now in
    let at = c.args.at in
    let m = c.make_room.ensures in
    let room = subst (λ z. HasRoomFor z c.make_room.new.records c.make_room.new.history) c.met-met.ensures c.in_ok-make_room.ensures.room in
    let e = pinned_met v.graph (curves_on r) l.sound p (met_of at) c.requires.spot.met in
    let proper = point_is_proper p c.laws.ensures in
    let k = stays_plane v r l p proper (e ∙ ap (is_pinned_met c.args.records.now.graph) (sym c.met-met.ensures) ∙ sym c.is_pinned.ensures ∙ c.if-is_pinned.false) in record {
      in_step = begun_in_step v r (map_of c.make_room.new.records) c.make_room.new.history (one_map c.make_room.new.records c.args.records.now c.make_room.ensures.graph c.make_room.ensures.tables) m.curves c.begin.ensures.begun c.requires.map.map.sound l c.requires.watched;
      map = c.make_room.ensures.map c.requires.map;
      spot = subst (λ f. IsSpotOf c.make_room.new.records.graph f p at) (sym m.tables) (subst (λ z. IsSpotOf z c.args.records.now.faces.tables p at) (sym m.graph) c.requires.spot);
      plane = moved v r (map_of c.make_room.new.records) c.make_room.new.history (one_map c.make_room.new.records c.args.records.now c.make_room.ensures.graph c.make_room.ensures.tables) m.curves (λ z h. IsPlaneWith z.graph h p (met_of at)) (plane_with v.graph (curves_on r) l.sound l.curves p proper (met_of at) c.requires.spot.met k);
      vertices = omega (arith, one_vertex (met_of at), room.vertices);
      darts = omega (arith, two_darts (met_of at), room.darts);
      pairs = room.pairs;
    }

pub set_pin-requires : goal.set_pin-requires
set_pin-requires g c = record { in_step = c.make_vertex-vertex.ensures.in_step; map = c.make_vertex-vertex.ensures.map; vertex = c.make_vertex-vertex.ensures.vertex.has }

pub returns : goal.returns
returns g c =
    let v = map_of c.args.records.now in
    let r = c.args.history.now in
    let l = c.requires.layer in
    let p = c.args.p.now in
    let m = c.make_room.ensures in
    let x = map_of c.make_vertex-vertex.new.records in
    let k = c.make_vertex-vertex.new.history in
    let e = pinned_met v.graph (curves_on r) l.sound p (met_of c.args.at) c.requires.spot.met in
    let o = c.make_vertex-vertex.ensures in
    let here = sided_of_edit v r (map_of c.make_room.new.records) c.make_room.new.history (one_map c.make_room.new.records c.args.records.now c.make_room.ensures.graph c.make_room.ensures.tables) m.strands c.begin.ensures.begun _ x k _ (sided o.told o.strands) in
    let there = sided_as v r _ _ _ x k _ here (ap (λ z. steps_at z p (met_of c.args.at)) m.graph ∙ sym (at_met v.graph (curves_on r) l.sound l.curves p (point_is_proper p c.laws.ensures) (met_of c.args.at) c.requires.spot.met)) in
    let set = sided c.set_pin.ensures.told c.set_pin.ensures.strands in
    let n = counted (map_of c.args.records.now) c.args.history.now l c.args.p.now (point_is_proper c.args.p.now c.laws.ensures) in
    let after = pin_layer v r l p (point_is_proper p c.laws.ensures) (e ∙ ap (is_pinned_met c.args.records.now.graph) (sym c.met-met.ensures) ∙ sym c.is_pinned.ensures ∙ c.if-is_pinned.false) _ x k _ there c.make_vertex-vertex.result c.make_vertex-vertex.ensures.vertex (map_of c.set_pin.new.records) k _ set (same_layers r c.make_room.new.history c.make_vertex-vertex.new.history m.layer c.make_vertex-vertex.ensures.layer) in record {
      layer = after.0;
      map = c.set_pin.ensures.map;
      watched = c.set_pin.ensures.in_step.holds;
      edit = after.1;
      told = (pin_told v r l p (point_is_proper p c.laws.ensures) (e ∙ ap (is_pinned_met c.args.records.now.graph) (sym c.met-met.ensures) ∙ sym c.is_pinned.ensures ∙ c.if-is_pinned.false) _ x k _ there c.make_vertex-vertex.result c.make_vertex-vertex.ensures.vertex (map_of c.set_pin.new.records) k _ set).told;
      refused = pin_allowed c.args.pins (layer_of c.args.records.now.graph c.args.history.now) c.args.p.now (e ∙ ap (is_pinned_met c.args.records.now.graph) (sym c.met-met.ensures) ∙ sym c.is_pinned.ensures ∙ c.if-is_pinned.false) (not_full_out _ _ _ (sym c.is_full.ensures ∙ c.if-is_full.false) n);
      room = λ room is. other _ tt is;
      graph = tt;
      tables = tt;
      same_layer = tt;
      same_curves = tt;
      untold = tt;
    }
