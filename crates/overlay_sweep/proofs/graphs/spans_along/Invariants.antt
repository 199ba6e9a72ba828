use Rattle.std.proofs.Common.{◌≡◌, map, take}
use Rattle.slab_laws.specs.SpansDrawn.{edge_of}
use Rattle.sweep_graphs.specs.Edges.{edge_between}
use Rattle.overlay_sweep.proofs.graphs.spans_along.Given as goal

abbrev pub invariant-loop-edge : goal.invariant-loop-edge
invariant-loop-edge l = map edge_of l.spans.items ≡ map (edge_between l.points) (take l.edge-index l.edges)
