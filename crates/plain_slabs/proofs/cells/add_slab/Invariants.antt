use Rattle.std.proofs.Common.{◌≡◌, ◌++◌}
use Rattle.plain_slabs.proofs.Gathered.{cells_of}
use Rattle.plain_slabs.proofs.cells.add_slab.Given as goal

abbrev pub invariant-loop-place : goal.invariant-loop-place
invariant-loop-place l = l.list.items ≡ l.fn.list.items ++ cells_of l.slab l.place
