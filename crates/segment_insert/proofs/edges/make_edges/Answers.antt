use Rattle.std.proofs.Common.{◌≡◌, ℕ, List, suc, ◌+◌, ◌-◌, arith, drop, refl, sym, ◌∙◌, subst}
use Rattle.exact_plane.specs.Segment.{line_of_segment}
use Rattle.plane_graphs.specs.Ascending.{Member}
use Rattle.plane_graphs.specs.Graph.{Mark, chain}
use Rattle.plane_graphs.specs.Line.{IsProperLine}
use Rattle.plane_graphs.specs.Strands.{strand}
use Rattle.dcel_records.specs.SoundMaps.{map_of}
use Rattle.curve_history.specs.Past.{curves_on}
use Rattle.plane_graphs.proofs.Lines.{line_is_proper}
use Rattle.segment_insert.specs.Parts.{IsOpenPart}
use Rattle.observer_bus.specs.Rows.{bus_row}
use Rattle.zone_walk.specs.Zone.{points_of_meetings}
use Rattle.segment_insert.proofs.Chains.{chain_ends}
use Rattle.segment_insert.proofs.MarksCome.{AreHeld, IsGoing, part_sound, begins, goes_on, ends, all_held, next_held}
use Rattle.segment_insert.proofs.OpenParts.{AreMet, AreNext, vertex_here, open_part, chain_here, part_stays}
use Rattle.segment_insert.proofs.edges.make_edges.Goals as goal

pub vertex_of-u-requires : goal.vertex_of-u-requires
vertex_of-u-requires g c = vertex_here c.args.records.now.graph c.args.meetings.now c.requires.named (c.loop-i.i - 1) c.index-meetings-i.result (omega arith) c.index-meetings-i.is

pub vertex_of-w-requires : goal.vertex_of-w-requires
vertex_of-w-requires g c = vertex_here c.args.records.now.graph c.args.meetings.now c.requires.named c.loop-i.i c.index-meetings-i-in-loop-i.result c.loop-i-test.true c.index-meetings-i-in-loop-i.is

pub loop-i-init : goal.loop-i-init
loop-i-init g c = record {
  going = begins (map_of c.args.records.now) (curves_on c.args.history.now) (chain c.args.curve.0 (points_of_meetings c.args.meetings.now)) c.requires.in_step c.requires.plane;
  held = refl;
  map = c.requires.map;
  layer = record { names = refl; pieces = refl; next = refl };
  named = c.requires.curve_named;
  darts = omega arith;
  cycles = omega arith;
  faces = omega arith;
  pairs = omega arith;
}

pub make_edge-requires-clause-in_step : goal.make_edge-requires-clause-in_step
make_edge-requires-clause-in_step g c = c.loop-i.invariant.going.in_step

pub make_edge-requires-clause-part : goal.make_edge-requires-clause-part
make_edge-requires-clause-part g c =
    let v = c.args.records.now.graph in
    let k : ℕ = c.loop-i.i - 1 in
    let u = c.vertex_of-u.result in
    let w = c.vertex_of-w.result in
    let met : AreMet c.args.records.now.graph c.args.segment.now c.args.meetings.now = record { named = c.requires.named; on = c.requires.on; all = c.requires.all_on; line = subst IsProperLine c.line_of-line.ensures.value (line_is_proper c.line_of-line.result c.line_of-line.ensures.line) } in
    let next : AreNext c.args.meetings.now k c.loop-i.i u w = record { first = c.index-meetings-i.result; second = c.index-meetings-i-in-loop-i.result; next = omega arith; below = c.loop-i-test.true; at_first = c.index-meetings-i.is; at_second = c.index-meetings-i-in-loop-i.is; is_first = c.vertex_of-u.ensures; is_second = c.vertex_of-w.ensures } in
    let part = open_part v c.args.segment.now c.args.meetings.now met k c.loop-i.i u w next in
    subst (λ l. IsOpenPart c.loop-i.records.graph l u w) (sym c.line_of-line.ensures.value) (part_stays v c.loop-i.records.graph (line_of_segment c.args.segment.now) u w c.loop-i.invariant.going.vertices part)

pub make_edge-requires-clause-plane : goal.make_edge-requires-clause-plane
make_edge-requires-clause-plane g c =
    let v = c.args.records.now.graph in
    let k : ℕ = c.loop-i.i - 1 in
    let u = c.vertex_of-u.result in
    let w = c.vertex_of-w.result in
    let met : AreMet c.args.records.now.graph c.args.segment.now c.args.meetings.now = record { named = c.requires.named; on = c.requires.on; all = c.requires.all_on; line = subst IsProperLine c.line_of-line.ensures.value (line_is_proper c.line_of-line.result c.line_of-line.ensures.line) } in
    let next : AreNext c.args.meetings.now k c.loop-i.i u w = record { first = c.index-meetings-i.result; second = c.index-meetings-i-in-loop-i.result; next = omega arith; below = c.loop-i-test.true; at_first = c.index-meetings-i.is; at_second = c.index-meetings-i-in-loop-i.is; is_first = c.vertex_of-u.ensures; is_second = c.vertex_of-w.ensures } in
    let first = chain_here v c.args.segment.now c.args.meetings.now met k c.loop-i.i u w next c.args.curve.0 in
    part_sound (map_of c.args.records.now) (curves_on c.args.history.now) _ _ (map_of c.loop-i.records) (curves_on c.loop-i.history) c.loop-i.invariant.going u w c.args.curve.0 _ first

pub loop-i-preserved : goal.loop-i-preserved
loop-i-preserved g c =
    let v = c.args.records.now.graph in
    let k : ℕ = c.loop-i.i - 1 in
    let u = c.vertex_of-u.result in
    let w = c.vertex_of-w.result in
    let met : AreMet c.args.records.now.graph c.args.segment.now c.args.meetings.now = record { named = c.requires.named; on = c.requires.on; all = c.requires.all_on; line = subst IsProperLine c.line_of-line.ensures.value (line_is_proper c.line_of-line.result c.line_of-line.ensures.line) } in
    let next : AreNext c.args.meetings.now k c.loop-i.i u w = record { first = c.index-meetings-i.result; second = c.index-meetings-i-in-loop-i.result; next = omega arith; below = c.loop-i-test.true; at_first = c.index-meetings-i.is; at_second = c.index-meetings-i-in-loop-i.is; is_first = c.vertex_of-u.ensures; is_second = c.vertex_of-w.ensures } in
    let first = chain_here v c.args.segment.now c.args.meetings.now met k c.loop-i.i u w next c.args.curve.0 in
    let i = c.loop-i.invariant in
    let e = c.make_edge.ensures in
    let z : ℕ = strand c.args.curve.0 c.args.side in
    let more : suc k ≡ c.loop-i.i + 1 - 1 = omega arith in
    let from : ℕ → ℕ → List Mark = λ n j. chain n (points_of_meetings (drop j c.args.meetings.now)) in
    record {
      going = subst (λ j. IsGoing (map_of c.args.records.now) (curves_on c.args.history.now)
          (bus_row (goal.Observer-dyn g) c.args.bus.now) (from c.args.curve.0 0) (from c.args.curve.0 j) (map_of c.make_edge.new.records) (curves_on c.make_edge.new.history)
          (bus_row (goal.Observer-dyn g) c.make_edge.new.bus)) more
          (goes_on (map_of c.args.records.now) (curves_on c.args.history.now) _ _ (map_of c.loop-i.records) (curves_on c.loop-i.history) i.going u w c.args.curve.0 _ first (map_of c.make_edge.new.records) (curves_on c.make_edge.new.history) _ e.told e.in_step e.vertices);
      held = subst (λ j. AreHeld v c.args.history.now (from z 0) (from z j) c.make_edge.new.records.graph c.make_edge.new.history) more
          (next_held v c.args.history.now _ _ c.loop-i.records.graph c.loop-i.history i.held u w z _ i.going.vertices (chain_here v c.args.segment.now c.args.meetings.now met k c.loop-i.i u w next z) c.make_edge.new.records.graph c.make_edge.new.history e.strands);
      map = e.map;
      layer = record { names = e.layer.names ∙ i.layer.names; pieces = e.layer.pieces ∙ i.layer.pieces; next = e.layer.next ∙ i.layer.next };
      named = subst (Member c.args.curve.0) (sym e.layer.names) i.named;
      darts = omega arith;
      cycles = omega arith;
      faces = omega arith;
      pairs = omega arith;
    }

pub returns-clause-told : goal.returns-clause-told
returns-clause-told g c =
    ends (map_of c.args.records.now) (curves_on c.args.history.now) _ _ (map_of c.loop-i.records) (curves_on c.loop-i.history) c.loop-i.invariant.going (chain_ends c.args.curve.0 c.args.meetings.now (c.loop-i.i - 1) (omega arith))

pub returns-clause-strands : goal.returns-clause-strands
returns-clause-strands g c =
    all_held c.args.records.now.graph c.args.history.now _ _ c.loop-i.records.graph c.loop-i.history c.loop-i.invariant.held (chain_ends (strand c.args.curve.0 c.args.side) c.args.meetings.now (c.loop-i.i - 1) (omega arith))

pub returns-clause-in_step : goal.returns-clause-in_step
returns-clause-in_step g c = c.loop-i.invariant.going.in_step

pub make_edge-requires-clause-map : goal.make_edge-requires-clause-map
make_edge-requires-clause-map g c = c.loop-i.invariant.map

pub returns-clause-map : goal.returns-clause-map
returns-clause-map g c = c.loop-i.invariant.map
