use Rattle.std.proofs.Common.{ap, ◌∙◌, sym, refl}
use Rattle.slab_laws.specs.Faces.{is_lowest, slab_cells}
use Rattle.slab_laws.specs.SpansDrawn.{drawn}
use Rattle.plain_slabs.proofs.Loops.{taken, passed}
use Rattle.plain_slabs.proofs.Gathered.{cells_after, cells_done, slab_first, slab_added}
use Rattle.plain_slabs.proofs.cells.list_cells.Goals.{then-begins_wall+in_ok-add_slab-2, else-begins_wall}
use Rattle.plain_slabs.proofs.cells.list_cells.Goals as goal

pub loop-wall-init : goal.loop-wall-init
loop-wall-init c = slab_first c.args.points.now c.args.edges.now c.deref.result.now c.new-list.result.items c.add_slab.new.list.items (c.deref.ensures.value ∙ c.in_ok-reaches.ensures) c.new-list.ensures.items c.in_ok-add_slab.ensures

pub loop-wall-preserved : goal.loop-wall-preserved
loop-wall-preserved c =
    let vs = c.args.points.now in
    let ss = c.args.edges.now in
    let first = slab_cells (drawn vs ss) 0 in
    elim c.if-begins_wall.branch [
      | then-begins_wall+in_ok-add_slab-2 w ↦
          ap (λ l. l.items) w.list-is
          ∙ taken (is_lowest vs) (cells_after vs ss) vs c.loop-wall.wall-index c.wall-item.result first c.loop-wall.list.items _ c.loop-wall-test.true c.wall-item.is (sym c.begins_wall.ensures ∙ w.if-begins_wall.true) c.loop-wall.invariant
          (slab_added vs ss w.deref-then-begins_wall.result.now c.wall-item.result _ _ c.loop-wall.list.items _ (w.deref-then-begins_wall.ensures.value ∙ c.in_ok-reaches.ensures) w.slab_after.ensures refl w.in_ok-add_slab-2.ensures)
      | else-begins_wall w ↦
          ap (λ l. l.items) w.list-is
          ∙ passed (is_lowest vs) (cells_after vs ss) vs c.loop-wall.wall-index c.wall-item.result first c.loop-wall.list.items c.loop-wall-test.true c.wall-item.is (sym c.begins_wall.ensures ∙ w.if-begins_wall.false) c.loop-wall.invariant
    ]

pub returns : goal.returns
returns c = cells_done c.args.points.now c.args.edges.now c.loop-wall.wall-index c.loop-wall.list.items c.loop-wall-test.false c.loop-wall.invariant
