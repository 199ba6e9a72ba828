use Rattle.std.proofs.Common.{◌∙◌}
use Rattle.dart_orbits.proofs.NextPlaces.{twin_within, next_pushed, nexts_done}
use Rattle.plain_slabs.proofs.nexts.nexts_of.Goals as goal

pub first_after-requires-clause-from : goal.first_after-requires-clause-from
first_after-requires-clause-from c = twin_within c.args.points.now c.args.edges.now c.args.darts.now c.requires.plane c.requires.darts c.deref-twin-items.result.now c.loop-twin.twin-index (c.deref-twin-items.ensures.value ∙ c.in_ok-twins.ensures) c.loop-twin-test.true

pub loop-twin-preserved : goal.loop-twin-preserved
loop-twin-preserved c = next_pushed c.args.points.now c.args.edges.now c.args.darts.now c.requires.plane c.requires.darts c.deref-twin-items.result.now c.loop-twin.twin-index c.first_after.result c.loop-twin.nexts.items c.push.new.self.items (c.deref-twin-items.ensures.value ∙ c.in_ok-twins.ensures) c.loop-twin-test.true c.first_after.ensures c.loop-twin.invariant c.in_ok-push.ensures.items

pub returns : goal.returns
returns c = nexts_done c.args.points.now c.args.edges.now c.args.darts.now c.requires.plane c.requires.darts c.deref-twin-items.result.now c.loop-twin.twin-index c.loop-twin.nexts.items (c.deref-twin-items.ensures.value ∙ c.in_ok-twins.ensures) c.loop-twin-test.false c.loop-twin.invariant
