use Rattle.plain_slabs.proofs.LabelledCells.{found_label, absent_label}
use Rattle.plain_slabs.proofs.cell_labels.CellLabels.least_of.Goals as goal

pub returns-in-Ok : goal.returns-in-Ok
returns-in-Ok c = found_label c.self.inside.cells.items c.self.inside.least.items c.deref.result.now c.args.self.now c.args.cell c.self.view_is c.self.invariant c.deref.ensures.value c.in-Ok.place c.index.result.now c.in-Ok.ensures.bound c.in-Ok.ensures.position c.index.ensures

pub returns-in-Err : goal.returns-in-Err
returns-in-Err c = absent_label c.self.inside.cells.items c.self.inside.least.items c.deref.result.now c.args.self.now c.args.cell c.self.view_is c.self.invariant c.deref.ensures.value c.in-Err.field-0 c.in-Err.ensures.position
