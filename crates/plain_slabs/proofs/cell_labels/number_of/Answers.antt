use Rattle.plain_slabs.specs.CellLabels.{cell_cmp}
use Rattle.plain_slabs.proofs.CellOrder.{cell_cmp_total}
use Rattle.dart_orbits.proofs.SearchedLists.{absent}
use Rattle.plain_slabs.proofs.cell_labels.number_of.Goals as goal

pub returns-in-Err-clause-below : goal.returns-in-Err-clause-below
returns-in-Err-clause-below c = absurd (absent cell_cmp cell_cmp_total c.args.cell c.args.cells.now c.in-Err.place c.requires.ascend c.in-Err.ensures.position c.requires.among)

pub returns-in-Err-clause-there : goal.returns-in-Err-clause-there
returns-in-Err-clause-there c = absurd (absent cell_cmp cell_cmp_total c.args.cell c.args.cells.now c.in-Err.place c.requires.ascend c.in-Err.ensures.position c.requires.among)
