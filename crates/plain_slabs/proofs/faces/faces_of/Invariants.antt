use Rattle.std.proofs.Common.{◌≡◌, take}
use Rattle.slab_laws.specs.SpansDrawn.{drawn}
use Rattle.plain_slabs.specs.Faces.{AreSeen}
use Rattle.plain_slabs.proofs.FaceLists.{with_cycles, with_cells}
use Rattle.plain_slabs.proofs.faces.faces_of.Given as goal

abbrev pub invariant-loop-cycle : goal.invariant-loop-cycle
invariant-loop-cycle l = AreSeen l.seen l.faces.items × (l.faces.items ≡ with_cycles (drawn l.points l.edges) (take l.cycle-index l.cycles))

abbrev pub invariant-loop-cell : goal.invariant-loop-cell
invariant-loop-cell l = AreSeen l.seen l.faces.items × (l.faces.items ≡ with_cells (drawn l.points l.edges) (take l.cell-index l.cells))
