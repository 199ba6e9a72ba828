use Rattle.std.proofs.Common.{ap₂, ◌∙◌, map}
use Rattle.std.proofs.lemmas.Result.{IfOk-weaker}
use Rattle.subdivision_rows.specs.Listed.{subdivision_in}
use Rattle.plain_slabs.specs.LayerEdges.{slab_beside}
use Rattle.subdivision_rows.proofs.RowsDrawn.{points_here}
use Rattle.plain_slabs.proofs.LayerLabels.{faces_here, ranks_are}
use Rattle.plain_slabs.proofs.labels.labels_within.Goals as goal

pub returns : goal.returns
returns c =
    IfOk-weaker c.ranks_at.result _ _
    (λ v h.
    ranks_are (subdivision_in c.args.own.now) c.args.edges.now _ _ _ _ v.items
    (c.deref-3.ensures.value ∙ c.in_ok-slabs.ensures ∙ ap₂ (λ vs us. map (slab_beside vs) us) (c.deref.ensures.value ∙ points_here c.lists.result.now c.args.plain.now c.lists.ensures.sound (c.lists.ensures.drawing ∙ c.plain.view_is)) (c.deref-2.ensures.value ∙ points_here c.lists-2.result.now c.args.own.now c.lists-2.ensures.sound (c.lists-2.ensures.drawing ∙ c.own.view_is)))
    (c.deref-4.ensures.value ∙ faces_here c.plain.inside c.args.plain.now c.plain.invariant c.plain.view_is)
    h)
    c.ranks_at.ensures
