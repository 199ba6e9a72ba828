use Rattle.std.proofs.Common.{[]}
use Rattle.slab_laws.specs.View.{HasDart}
use Rattle.plane_graphs.proofs.Loops.{all_gathered, gathered}
use Rattle.segment_remove.specs.Ends.{two_ends}
use Rattle.segment_remove.proofs.EndsOf.{one_has, two_pushed}
use Rattle.segment_remove.proofs.ends.end_keys.Goals as goal

pub key_of-requires-in-loop-edge : goal.key_of-requires-in-loop-edge
key_of-requires-in-loop-edge c =
    let g = c.args.records.now.graph in
    let has = one_has (λ k. HasDart g k.name) c.args.edges.now c.loop-edge.edge-index c.edge-item.result c.requires.have c.loop-edge-test.true c.edge-item.is in
    rw c.target.ensures (c.requires.sound.linked.source _ (c.requires.sound.twinned.has c.edge-item.result.name has))

pub returns : goal.returns
returns c = all_gathered (two_ends c.args.records.now.graph) c.args.edges.now c.loop-edge.edge-index [] c.loop-edge.keys.items c.loop-edge-test.false c.loop-edge.invariant

pub loop-edge-preserved : goal.loop-edge-preserved
loop-edge-preserved c =
    let g = c.args.records.now.graph in
    let k = c.edge-item.result in
    gathered (two_ends g) c.args.edges.now c.loop-edge.edge-index k [] c.loop-edge.keys.items _ c.loop-edge-test.true c.edge-item.is c.loop-edge.invariant
    (two_pushed g k c.loop-edge.keys.items c.push.new.self.items _ c.source.result c.target.result c.key_of.result c.key_of-in-loop-edge.result c.source.ensures c.key_of.ensures c.in_ok-push.ensures.items c.target.ensures c.key_of-in-loop-edge.ensures c.in_ok-push-2.ensures.items)
