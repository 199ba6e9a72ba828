use Rattle.std.proofs.Common.{ap₂, ◌∙◌, map, sym, refl}
use Rattle.std.proofs.lemmas.Result.{IfOk-weaker}
use Rattle.slab_laws.specs.Pieces.{present_of}
use Rattle.subdivision_rows.specs.Listed.{skeleton_in}
use Rattle.plain_slabs.specs.LayerEdges.{slab_beside, layer_edge}
use Rattle.plain_slabs.proofs.LayerCells.{none_vertical_across}
use Rattle.subdivision_rows.proofs.RowsDrawn.{drawn_here, plane_here, points_here}
use Rattle.plain_slabs.proofs.LayerLabels.{labels_are, vertices_are}
use Rattle.plain_slabs.proofs.labels.labels_of.Goals as goal

pub labels_within-labels-requires : goal.labels_within-labels-requires
labels_within-labels-requires c =
    let l = present_of c.args.layer.now in
    let a = c.lists-lists.result.now in
    none_vertical_across l a.points.items a.edges.items _ (plane_here a c.args.plain.now c.lists-lists.ensures.sound (c.lists-lists.ensures.drawing ∙ c.plain.view_is))
    (c.deref-3.ensures.value ∙ c.in_ok-edges.ensures ∙ ap₂ (λ vs ss. map (layer_edge l vs) ss) c.deref.ensures.value c.deref-2.ensures.value)

pub returns : goal.returns
returns c =
    let l = present_of c.args.layer.now in
    let a = c.lists-lists.result.now in
    IfOk-weaker c.labels_within-labels.result _ _
    (λ v h.
    labels_are l a.points.items a.edges.items (skeleton_in c.args.plain.now) _ _ _ _ _ v.items (drawn_here a c.args.plain.now c.lists-lists.ensures.sound (c.lists-lists.ensures.drawing ∙ c.plain.view_is))
    c.in_ok-own.ensures.subdivision
    (c.deref-3.ensures.value ∙ c.in_ok-edges.ensures ∙ ap₂ (λ vs ss. map (layer_edge l vs) ss) c.deref.ensures.value c.deref-2.ensures.value)
    (ap₂ (λ vs us. map (slab_beside vs) us) (sym (points_here a c.args.plain.now c.lists-lists.ensures.sound (c.lists-lists.ensures.drawing ∙ c.plain.view_is))) (vertices_are l c.in_ok-own.own _ refl c.in_ok-own.ensures.graph))
    refl
    h)
    c.labels_within-labels.ensures
