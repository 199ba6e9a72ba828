use Rattle.std.proofs.Common.{sym, ap, ◌∙◌}
use Rattle.slab_laws.specs.SpansDrawn.{drawn}
use Rattle.slab_laws.specs.Slabs.{slab_right, left_cell, right_cell}
use Rattle.edge_predicates.proofs.CellsBeside.{cell_above, cell_below, cell_left, cell_right}
use Rattle.plain_slabs.proofs.left_cells.cell_beside.Goals as goal

pub returns-then-forward : goal.returns-then-forward
returns-then-forward c =
    cell_above c.args.points.now c.args.edges.now c.args.edge.now c.args.forward c.requires.plane c.requires.among (sym c.is_slanted.ensures ∙ c.if-is_slanted.true) c.if-forward.true _ _
    (c.slab_after-slab.ensures ∙ ap (slab_right (drawn c.args.points.now c.args.edges.now)) c.lower-low.ensures.value) c.place_beside-below.ensures

pub returns-else-forward : goal.returns-else-forward
returns-else-forward c =
    cell_below c.args.points.now c.args.edges.now c.args.edge.now c.args.forward c.requires.plane c.requires.among (sym c.is_slanted.ensures ∙ c.if-is_slanted.true) c.if-forward.false _ _
    (c.slab_after-slab.ensures ∙ ap (slab_right (drawn c.args.points.now c.args.edges.now)) c.lower-low.ensures.value) c.place_beside-below.ensures

pub returns-then-forward-2 : goal.returns-then-forward-2
returns-then-forward-2 c =
    c.cell_before.ensures ∙ ap (left_cell (drawn c.args.points.now c.args.edges.now)) c.lower-low.ensures.value
    ∙ cell_left c.args.points.now c.args.edges.now c.args.edge.now c.args.forward (sym c.is_slanted.ensures ∙ c.if-is_slanted.false) c.if-forward-2.true

pub returns-else-forward-2 : goal.returns-else-forward-2
returns-else-forward-2 c =
    c.cell_after.ensures ∙ ap (right_cell (drawn c.args.points.now c.args.edges.now)) c.lower-low.ensures.value
    ∙ cell_right c.args.points.now c.args.edges.now c.args.edge.now c.args.forward (sym c.is_slanted.ensures ∙ c.if-is_slanted.false) c.if-forward-2.false
