use Rattle.std.proofs.Common.{ap, ◌++◌}
use Rattle.overlay_sweep.specs.EdgeRows.{ends_rows}
use Rattle.overlay_sweep.proofs.RowsAhead.{no_ends, row_more, rows_done}
use Rattle.overlay_sweep.proofs.graphs.rows_along.Goals as goal

pub loop-edge-init : goal.loop-edge-init
loop-edge-init c = ap (λ xs. xs ++ ends_rows 0 c.args.edges.now) c.in_ok-rows.ensures.items

pub loop-edge-preserved : goal.loop-edge-preserved
loop-edge-preserved c = row_more c.args.edges.now c.loop-edge.edge no_ends c.loop-edge.rows.items c.push.new.self.items (ends_rows 0 c.args.edges.now) c.loop-edge-test.true c.in_ok-push.ensures.items c.loop-edge.invariant

pub returns : goal.returns
returns c = rows_done c.args.edges.now c.loop-edge.edge c.loop-edge.rows.items (ends_rows 0 c.args.edges.now) c.loop-edge-test.false c.loop-edge.invariant
