use Rattle.std.proofs.Common.{◌≡◌, List, sym, ap, ◌∙◌}
use Rattle.std.specs.BTreeSet.{BTreeSet, contains}
use Rattle.std.specs.List.{list_any}
use Rattle.std.proofs.lemmas.List.{take_all}
use Rattle.plain_slabs.specs.CellLabels.{cell_cmp}
use Rattle.slab_laws.specs.declared.slab_cell.SlabCell.{SlabCell}
use Rattle.slab_laws.specs.Faces.{same_cell}
use Rattle.slab_laws.specs.SpansDrawn.{drawn}
use Rattle.slab_laws.specs.Subdivision.{first_cell}
use Rattle.plain_slabs.specs.Faces.{added, AreSeen}
use Rattle.plain_slabs.proofs.FaceLists.{with_cycles, cycle_taken, cycle_passed, cell_taken, cells_done}
use Rattle.plain_slabs.proofs.faces.faces_of.Goals.{then-is_outer+in_ok-add_face-2, else-is_outer}
use Rattle.plain_slabs.proofs.faces.faces_of.Goals as goal

seen_as : (s t : BTreeSet SlabCell) (fs gs : List SlabCell) → s ≡ t → fs ≡ gs → AreSeen t gs → AreSeen s fs
seen_as s t fs gs e f h d = ap (λ u. contains cell_cmp u d) e ∙ h d ∙ ap (list_any (same_cell d)) (sym f)

pub loop-cycle-init : goal.loop-cycle-init
loop-cycle-init c = (c.in_ok-add_face.ensures.seen, c.in_ok-add_face.ensures.faces ∙ (λ i. added (c.new-faces.ensures.items i) ((c.least_of-unbounded.ensures ∙ c.requires.labels first_cell) i)))

pub loop-cycle-preserved : goal.loop-cycle-preserved
loop-cycle-preserved c =
    let g = drawn c.args.points.now c.args.edges.now in
    let cycles = c.args.cycles.now in
    let i = c.loop-cycle.cycle-index in
    let old = c.loop-cycle.faces.items in
    let now = c.if-is_outer.faces.items in
    elim c.if-is_outer.branch [
      | then-is_outer+in_ok-add_face-2 w ↦ (
        seen_as c.if-is_outer.seen _ now _ w.seen-is (λ j. (w.faces-is j).items) w.in_ok-add_face-2.ensures.seen,
        cycle_taken g cycles i _ old now c.loop-cycle-test.true (sym c.is_outer.ensures ∙ w.if-is_outer.true) c.loop-cycle.invariant.1 ((λ j. (w.faces-is j).items) ∙ w.in_ok-add_face-2.ensures.faces),
      )
      | else-is_outer w ↦ (
        seen_as c.if-is_outer.seen _ now _ w.seen-is (λ j. (w.faces-is j).items) c.loop-cycle.invariant.0,
        cycle_passed g cycles i _ old now c.loop-cycle-test.true (sym c.is_outer.ensures ∙ w.if-is_outer.false) c.loop-cycle.invariant.1 (λ j. (w.faces-is j).items),
      )
    ]

pub loop-cell-init : goal.loop-cell-init
loop-cell-init c = (c.loop-cycle.invariant.0, c.loop-cycle.invariant.1 ∙ ap (with_cycles (drawn c.args.points.now c.args.edges.now)) (take_all c.loop-cycle.cycle-index c.args.cycles.now c.loop-cycle-test.false ∙ c.requires.cycles))

pub loop-cell-preserved : goal.loop-cell-preserved
loop-cell-preserved c =
    let cell = c.in_ok-add_face-3.ensures in
    (cell.seen, cell_taken (drawn c.args.points.now c.args.edges.now) c.args.cells.now c.loop-cell.cell-index _ c.least_of.result c.loop-cell.faces.items _ c.loop-cell-test.true (c.least_of.ensures ∙ c.requires.labels _) c.loop-cell.invariant.1 cell.faces)

pub returns : goal.returns
returns c = cells_done (drawn c.args.points.now c.args.edges.now) c.args.cells.now c.loop-cell.cell-index c.loop-cell.faces.items c.loop-cell-test.false c.loop-cell.invariant.1 c.requires.cells
