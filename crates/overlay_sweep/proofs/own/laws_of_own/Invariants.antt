use Rattle.std.proofs.Common.{take}
use Rattle.exact_plane.specs.Span.{IsSpan}
use Rattle.plane_graphs.specs.Ascending.{Member}
use Rattle.overlay_sweep.specs.declared.own.OwnEdge.{OwnEdge}
use Rattle.overlay_sweep.proofs.own.laws_of_own.Given as goal

abbrev pub invariant-loop-edge : goal.invariant-loop-edge
invariant-loop-edge l = (k : OwnEdge) → Member k (take l.edge-index l.edges) → IsSpan k.span
