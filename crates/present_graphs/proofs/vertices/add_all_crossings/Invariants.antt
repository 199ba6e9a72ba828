use Rattle.std.proofs.Common.{take}
use Rattle.present_graphs.specs.Shared.{IsSharedByTwo, IsGrownBy}
use Rattle.present_graphs.proofs.vertices.add_all_crossings.Given as goal

abbrev pub invariant-loop-i : goal.invariant-loop-i
invariant-loop-i l = IsGrownBy (IsSharedByTwo (take l.i l.spans)) l.fn.points.items l.points.items
