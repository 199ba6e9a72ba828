use Rattle.std.proofs.Common.{◌≡◌, ap, ◌∙◌, sym, subst}
use Rattle.plane_graphs.specs.Ascending.{ascending, IsAscending}
use Rattle.plain_slabs.specs.CellLabels.{cell_cmp}
use Rattle.plain_slabs.proofs.LabelledCells.{cells_in, cells_ascend, all_among, numbers_below, fields_right, labels_right}
use Rattle.plain_slabs.proofs.cell_labels.CellLabels.of_links.Goals as goal
use Rattle.plain_slabs.proofs.cell_labels.CellLabels.of_links.Goals.{After-arrange}

arranged : (c : After-arrange) → c.arrange.new.cells.items ≡ cells_in c.args.links.now
arranged c = c.arrange.ensures ∙ ap (ascending cell_cmp) c.in_ok-cells.ensures

pub number_links-requires-clause-ascend : goal.number_links-requires-clause-ascend
number_links-requires-clause-ascend c = subst (IsAscending cell_cmp) (sym (c.deref.ensures.value ∙ arranged (goal.at.number_links-requires-clause-ascend c).After-arrange)) (cells_ascend c.args.links.now)

pub number_links-requires-clause-among : goal.number_links-requires-clause-among
number_links-requires-clause-among c = all_among c.args.links.now c.deref.result.now (c.deref.ensures.value ∙ arranged (goal.at.number_links-requires-clause-among c).After-arrange)

pub cells_at-requires : goal.cells_at-requires
cells_at-requires c = numbers_below c.arrange.new.cells.items c.deref-3.result.now c.deref-2.result.now c.in_ok-numbers.numbers.items c.deref-4.result.now c.len.result c.deref-3.ensures.value c.deref-4.ensures.value (c.len.ensures ∙ c.arrange.new.cells.ok.0) c.in_ok-numbers.ensures.length c.in_ok-numbers.ensures.least

pub invariant_of-result : goal.invariant_of-result
invariant_of-result c =
    fields_right c.args.links.now c.arrange.new.cells.items c.deref.result.now c.deref-3.result.now c.in_ok-numbered.numbered.items c.deref-2.result.now c.in_ok-numbers.numbers.items c.deref-4.result.now c.in_ok-least.least.items c.len.result
    (arranged (goal.at.invariant_of-result c).After-arrange) c.deref.ensures.value c.in_ok-numbered.ensures.below c.in_ok-numbered.ensures.links c.deref-2.ensures.value (c.len.ensures ∙ c.arrange.new.cells.ok.0) c.in_ok-numbers.ensures.length c.in_ok-numbers.ensures.least c.deref-3.ensures.value c.deref-4.ensures.value c.in_ok-least.ensures

pub returns : goal.returns
returns c =
    labels_right c.args.links.now c.arrange.new.cells.items c.deref.result.now c.deref-3.result.now c.in_ok-numbered.numbered.items c.deref-2.result.now c.in_ok-numbers.numbers.items c.deref-4.result.now c.in_ok-least.least.items c.len.result
    (arranged (goal.at.returns c).After-arrange) c.deref.ensures.value c.in_ok-numbered.ensures.below c.in_ok-numbered.ensures.links c.deref-2.ensures.value (c.len.ensures ∙ c.arrange.new.cells.ok.0) c.in_ok-numbers.ensures.length c.in_ok-numbers.ensures.least c.deref-3.ensures.value c.deref-4.ensures.value c.in_ok-least.ensures
