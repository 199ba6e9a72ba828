use Rattle.std.proofs.Common.{take}
use Rattle.present_graphs.specs.Shared.{IsSharedWith, IsGrownBy}
use Rattle.present_graphs.proofs.vertices.add_crossings.Given as goal

abbrev pub invariant-loop-other : goal.invariant-loop-other
invariant-loop-other l = IsGrownBy (IsSharedWith l.span (take l.other-index l.others)) l.fn.points.items l.points.items
