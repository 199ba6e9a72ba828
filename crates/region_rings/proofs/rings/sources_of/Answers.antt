use Rattle.std.proofs.Common.{ap, ◌∙◌}
use Rattle.dart_orbits.proofs.Pushed.{pushed, all_pushed}
use Rattle.region_rings.specs.Rings.{source_at}
use Rattle.region_rings.proofs.rings.sources_of.Goals as goal

pub loop-place-preserved : goal.loop-place-preserved
loop-place-preserved c =
    pushed (source_at c.args.darts.now) c.args.order.now c.loop-place.place 0 c.source_of.result c.loop-place.points.items c.push.new.self.items c.loop-place-test.true
    (c.source_of.ensures ∙ ap (source_at c.args.darts.now) c.number_at.ensures) c.loop-place.invariant c.in_ok-push.ensures.items

pub returns : goal.returns
returns c = all_pushed (source_at c.args.darts.now) c.args.order.now c.loop-place.place c.loop-place.points.items c.loop-place-test.false c.loop-place.invariant
