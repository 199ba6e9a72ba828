use Rattle.std.proofs.Common.{◌≡◌, ◌-◌, length, ap, ◌∙◌, arith}
use Rattle.sweep_graphs.proofs.OpenStretches.{none_yet, one_more, all_under}
use Rattle.sweep_graphs.proofs.below.edges_below.Goals as goal

pub back-init : goal.back-init
back-init c = none_yet c.args.trace.now c.as_slice-stretches.result.now (length c.as_slice-below.result.now) c.resize-2.new.self.items (let a = c.in_ok-resize-2.ensures.len in omega arith) (ap length c.as_slice-below.ensures)

pub edge_under-edge-requires : goal.edge_under-edge-requires
edge_under-edge-requires c =
    let w = c.back.invariant.within in
    let t = c.back-test.true in
    let e : length c.as_slice-below.result.now ≡ length c.args.trace.now.below = ap length c.as_slice-below.ensures in
    omega arith

pub set_edge-requires : goal.set_edge-requires
set_edge-requires c =
    let w = c.back.invariant.within in
    let n = c.back.invariant.counted in
    let t = c.back-test.true in
    omega arith

pub back-preserved : goal.back-preserved
back-preserved c =
    let w = c.back.invariant.within in
    let t = c.back-test.true in
    one_more c.args.trace.now c.as_slice-stretches.result.now c.back.vertex (c.back.vertex - 1) c.as_slice-below.result.now c.back.edges.items c.set_edge.new.edges.items c.edge_under-edge.result (omega arith) (omega arith) c.as_slice-below.ensures c.edge_under-edge.ensures c.set_edge.ensures c.back.invariant

pub returns : goal.returns
returns c = all_under c.args.trace.now c.as_slice-stretches.result.now c.back.vertex c.back.edges.items c.requires c.as_slice-stretches.ensures (let t = c.back-test.false in omega arith) c.back.invariant
