use Rattle.std.proofs.Common.{map, ap}
use Rattle.plane_graphs.proofs.Loops.{all_mapped}
use Rattle.plane_graphs.proofs.Sorting.{member_at}
use Rattle.slab_laws.specs.SpansDrawn.{edge_of}
use Rattle.sweep_graphs.specs.declared.edges.EdgeEnds.{EdgeEnds}
use Rattle.sweep_graphs.specs.Edges.{edge_between}
use Rattle.overlay_sweep.proofs.TracedEdges.{one_more}
use Rattle.overlay_sweep.proofs.graphs.spans_along.Goals as goal

abbrev no_edge : EdgeEnds
no_edge = record { low = 0; high = 0 }

pub loop-edge-init : goal.loop-edge-init
loop-edge-init c = ap (map edge_of) c.in_ok-spans.ensures.items

pub span_along-requires-clause-along : goal.span_along-requires-clause-along
span_along-requires-clause-along c = c.requires.along _ (member_at c.args.edges.now c.loop-edge.edge-index no_edge c.loop-edge-test.true)

pub loop-edge-preserved : goal.loop-edge-preserved
loop-edge-preserved c = one_more c.args.points.now c.args.edges.now c.loop-edge.edge-index no_edge c.loop-edge.spans.items c.push.new.self.items c.span_along.result c.loop-edge-test.true c.span_along.ensures c.in_ok-push.ensures.items c.loop-edge.invariant

pub returns : goal.returns
returns c = all_mapped (edge_between c.args.points.now) c.args.edges.now c.loop-edge.edge-index (map edge_of c.loop-edge.spans.items) c.loop-edge-test.false c.loop-edge.invariant
