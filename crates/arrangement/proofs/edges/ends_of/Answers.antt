use Rattle.std.proofs.Common.{ap, map, ◌∙◌}
use Rattle.std.proofs.lemmas.List.{take_all}
use Rattle.arrangement.proofs.Ends.{two, one_more_edge}
use Rattle.arrangement.proofs.edges.ends_of.Goals as goal

pub loop-edge-init : goal.loop-edge-init
loop-edge-init c = c.new-ends.ensures.items

pub loop-edge-preserved : goal.loop-edge-preserved
loop-edge-preserved c = one_more_edge c.args.edges.now c.loop-edge.ends.items c.push.new.self.items c.loop-edge.edge-index c.edge-item.result c.loop-edge-test.true c.edge-item.is c.loop-edge.invariant c.in_ok-push.ensures.items

pub returns : goal.returns
returns c = c.loop-edge.invariant ∙ ap (map two) (take_all c.loop-edge.edge-index c.args.edges.now c.loop-edge-test.false)
