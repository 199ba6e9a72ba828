use Rattle.std.proofs.Common.{ap, ◌∙◌, map}
use Rattle.slab_laws.specs.Pieces.{present_of}
use Rattle.slab_laws.specs.SpansDrawn.{edge_of}
use Rattle.slab_laws.specs.Overlay.{curves_along}
use Rattle.subdivision_rows.specs.Listed.{skeleton_in}
use Rattle.subdivision_rows.proofs.RowsDrawn.{edges_here}
use Rattle.plain_slabs.proofs.LayerLabels.{rows_are}
use Rattle.plain_slabs.proofs.labels.table_of.Goals as goal

pub returns : goal.returns
returns c =
    let l = present_of c.args.layer.now in
    rows_are l (skeleton_in c.args.plain.now) _
    (c.of.ensures.curves ∙ c.in_ok-curves.ensures ∙ ap (λ ss. map (curves_along l) (map edge_of ss)) c.deref.ensures.value ∙ ap (map (curves_along l)) (edges_here c.lists.result.now c.args.plain.now c.lists.ensures.sound (c.lists.ensures.drawing ∙ c.plain.view_is)))
    (c.of.ensures.labels ∙ c.in_ok-labels.ensures)
