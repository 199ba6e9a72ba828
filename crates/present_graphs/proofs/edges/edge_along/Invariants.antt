use Rattle.std.proofs.Common.{take}
use Rattle.present_graphs.specs.Marks.{mark_of}
use Rattle.present_graphs.proofs.HoldingSpan.{NoneHolds}
use Rattle.present_graphs.proofs.edges.edge_along.Given as goal

abbrev pub invariant-loop-span : goal.invariant-loop-span
invariant-loop-span l = NoneHolds (take l.span-index l.spans) (mark_of l.mark)
