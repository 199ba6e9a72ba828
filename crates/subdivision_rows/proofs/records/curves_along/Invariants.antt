use Rattle.std.proofs.Common.{◌≡◌, take}
use Rattle.subdivision_rows.specs.Curves.{curves_along}
use Rattle.subdivision_rows.proofs.records.curves_along.Given as goal

abbrev pub invariant-loop-mark : goal.invariant-loop-mark
invariant-loop-mark l = l.curves.items ≡ curves_along (take l.mark-index l.marks) l.low l.high
