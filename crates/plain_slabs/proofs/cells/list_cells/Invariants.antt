use Rattle.std.proofs.Common.{◌≡◌, ◌++◌, take}
use Rattle.slab_laws.specs.SpansDrawn.{drawn}
use Rattle.slab_laws.specs.Faces.{is_lowest, slab_cells}
use Rattle.plain_slabs.proofs.Loops.{gathered}
use Rattle.plain_slabs.proofs.Gathered.{cells_after}
use Rattle.plain_slabs.proofs.cells.list_cells.Given as goal

abbrev pub invariant-loop-wall : goal.invariant-loop-wall
invariant-loop-wall l = l.list.items ≡ slab_cells (drawn l.points l.edges) 0 ++ gathered (is_lowest l.points) (cells_after l.points l.edges) (take l.wall-index l.points)
