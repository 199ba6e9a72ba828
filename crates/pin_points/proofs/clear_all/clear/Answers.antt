use Rattle.std.proofs.Common.{refl}
use Rattle.dcel_records.specs.SoundMaps.{map_of}
use Rattle.told_steps.proofs.Begun.{begun_in_step, told_of_edit}
use Rattle.told_steps.proofs.SidedRuns.{sided}
use Rattle.pin_points.proofs.Clearing.{clear_told, clear_layer}
use Rattle.pin_points.proofs.clear_all.clear.Goals as goal

pub clear-requires : goal.clear-requires
clear-requires g c =
    let v = map_of c.args.records.now in
    let p = c.args.history.now in
    record { in_step = begun_in_step v p v p refl (λ d. refl) c.begin.ensures.begun c.requires.map.map.sound c.requires.layer c.requires.watched; map = c.requires.map }

pub returns-clause-layer : goal.returns-clause-layer
returns-clause-layer g c =
    let e = c.clear.ensures in
    (clear_layer (map_of c.args.records.now) c.args.history.now _ (map_of c.clear.new.records) c.clear.new.history _ (sided e.told e.strands) c.requires.layer e.names e.pieces e.next).0

pub returns-clause-edit : goal.returns-clause-edit
returns-clause-edit g c =
    let e = c.clear.ensures in
    (clear_layer (map_of c.args.records.now) c.args.history.now _ (map_of c.clear.new.records) c.clear.new.history _ (sided e.told e.strands) c.requires.layer e.names e.pieces e.next).1

pub returns-clause-told : goal.returns-clause-told
returns-clause-told g c =
    let v = map_of c.args.records.now in
    let p = c.args.history.now in
    let x = map_of c.clear.new.records in
    told_of_edit v p v p refl (λ d. refl) c.begin.ensures.begun _ x _ _ (clear_told v p _ x c.clear.new.history _ (sided c.clear.ensures.told c.clear.ensures.strands)).told
