use Rattle.dart_orbits.proofs.Listed.{row_added}
use Rattle.dart_orbits.proofs.rows.rows_ahead.Goals as goal

pub loop-edge-preserved : goal.loop-edge-preserved
loop-edge-preserved c =
    row_added c.args.points.now c.args.edges.now c.loop-edge.edge c.index-edges-edge.result c.lower.result c.upper.result c.place_of.result c.place_of-in-loop-edge.result c.loop-edge.rows.items c.push.new.self.items c.requires.plane c.loop-edge-test.true c.index-edges-edge.is c.lower.ensures.value c.upper.ensures c.place_of.ensures c.place_of-in-loop-edge.ensures c.loop-edge.invariant c.in_ok-push.ensures.items
