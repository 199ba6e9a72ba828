use Rattle.std.proofs.Common.{◌+◌, drop, arith, refl, ◌∙◌}
use Rattle.std.proofs.lemmas.List.{drop_all}
use Rattle.dcel_records.specs.SoundMaps.{map_of}
use Rattle.curve_history.specs.Past.{curves_on}
use Rattle.segment_remove.proofs.EdgesReleased.{next_key, starts, runs_here, goes_on, ends, gone, with_keys}
use Rattle.segment_remove.proofs.SidesReleased.{all_gone, others_stay}
use Rattle.segment_remove.proofs.release.release_curve.Goals as goal

pub loop-edge-init : goal.loop-edge-init
loop-edge-init g c = record {
  going = starts (map_of c.args.records.now) (curves_on c.args.history.now) c.args.curve c.requires.in_step.sound.graph c.requires.in_step.curves c.args.edges.now c.requires.keys c.requires.all c.requires.ascend _ c.requires.in_step;
  others = refl;
  map = c.requires.map;
  spare = let e = c.requires.cycles in omega (arith, e);
  layer = record { names = refl; pieces = refl; next = refl };
}

pub release_at-requires-clause-runs : goal.release_at-requires-clause-runs
release_at-requires-clause-runs g c =
    runs_here (map_of c.args.records.now) (curves_on c.args.history.now) c.args.curve _ c.args.edges.now (drop (c.loop-edge.edge-index + 1) c.args.edges.now) c.edge-item.result (map_of c.loop-edge.records) (curves_on c.loop-edge.history) _
    (with_keys (map_of c.args.records.now) (curves_on c.args.history.now) c.args.curve (next_key c.args.edges.now c.loop-edge.edge-index c.edge-item.result c.loop-edge-test.true c.edge-item.is) c.loop-edge.invariant.going)

pub loop-edge-preserved : goal.loop-edge-preserved
loop-edge-preserved g c =
    let v = map_of c.args.records.now in
    let h = curves_on c.args.history.now in
    let i = c.loop-edge.invariant.layer in
    let e = c.release_at.ensures in
    record {
      going = goes_on v h c.args.curve _ c.args.edges.now (drop (c.loop-edge.edge-index + 1) c.args.edges.now) c.edge-item.result (map_of c.loop-edge.records) (curves_on c.loop-edge.history) _
          (with_keys v h c.args.curve (next_key c.args.edges.now c.loop-edge.edge-index c.edge-item.result c.loop-edge-test.true c.edge-item.is) c.loop-edge.invariant.going)
          (map_of c.release_at.new.records) (curves_on c.release_at.new.history) e.graph e.curves _ e.in_step e.told;
      others = others_stay c.loop-edge.records.graph c.loop-edge.history c.edge-item.result.name c.args.curve.0 c.release_at.new.records.graph c.release_at.new.history e.sides ∙ c.loop-edge.invariant.others;
      map = e.map;
      spare = let k = c.loop-edge.invariant.spare in let n = e.spare_cycles in omega (arith, k, n);
      layer = record { names = e.layer.names ∙ i.names; pieces = e.layer.pieces ∙ i.pieces; next = e.layer.next ∙ i.next };
    }

pub returns-clause-told : goal.returns-clause-told
returns-clause-told g c =
    let v = map_of c.args.records.now in
    let h = curves_on c.args.history.now in
    ends v h c.args.curve c.requires.in_step.sound.graph c.requires.in_step.curves c.args.edges.now c.requires.keys c.requires.all c.requires.ascend _ (map_of c.loop-edge.records) (curves_on c.loop-edge.history) _
    (with_keys v h c.args.curve (drop_all c.loop-edge.edge-index c.args.edges.now (omega (arith, c.loop-edge-test.false))) c.loop-edge.invariant.going)

pub returns-clause-gone : goal.returns-clause-gone
returns-clause-gone g c =
    let v = map_of c.args.records.now in
    let h = curves_on c.args.history.now in
    gone v h c.args.curve c.requires.in_step.sound.graph c.requires.in_step.curves c.args.edges.now c.requires.keys c.requires.all c.requires.ascend _ (map_of c.loop-edge.records) (curves_on c.loop-edge.history) _
    (with_keys v h c.args.curve (drop_all c.loop-edge.edge-index c.args.edges.now (omega (arith, c.loop-edge-test.false))) c.loop-edge.invariant.going)

pub returns-clause-sides : goal.returns-clause-sides
returns-clause-sides g c = all_gone c.args.records.now.graph c.args.history.now c.args.curve.0 c.loop-edge.records.graph c.loop-edge.history c.loop-edge.invariant.going.in_step.sound.graph (returns-clause-gone g c) c.loop-edge.invariant.others
