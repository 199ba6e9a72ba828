use Rattle.std.proofs.Common.{◌∙◌}
use Rattle.plain_slabs.proofs.LayerCells.{none_among}
use Rattle.plain_slabs.proofs.layer_cells.cell_among.Goals as goal

pub count_layer-requires : goal.count_layer-requires
count_layer-requires c = none_among c.args.edges.now c.args.cell.slab _ c.requires (c.deref.ensures.value ∙ c.in_ok-here.ensures)
