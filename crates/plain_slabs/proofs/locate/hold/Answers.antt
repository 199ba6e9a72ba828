use Rattle.std.proofs.Common.{sym, ap, ◌∙◌}
use Rattle.std.specs.Prelude.{find}
use Rattle.std.specs.List.{position_or_len}
use Rattle.slab_laws.specs.SpansDrawn.{edge_of, drawn}
use Rattle.slab_laws.specs.Faces.{same_cell}
use Rattle.slab_laws.specs.Skeleton.{same_point, inside}
use Rattle.slab_laws.specs.Slabs.{left_cell}
use Rattle.plain_slabs.proofs.Finds.{on_vertex, on_edge, in_face}
use Rattle.plain_slabs.proofs.locate.hold.Goals as goal

pub returns-in-Some : goal.returns-in-Some
returns-in-Some c =
    on_vertex c.lists-lists.result.now c.args.plain.now c.lists-lists.ensures.sound (c.lists-lists.ensures.drawing ∙ c.plain.view_is) c.args.point.now c.in-Some.vertex
    (ap (find (same_point c.args.point.now)) (sym c.deref.ensures.value) ∙ sym c.vertex_at.ensures ∙ c.in-Some.is)

pub returns-in-Some-edge_at : goal.returns-in-Some-edge_at
returns-in-Some-edge_at c =
    on_edge c.lists-lists.result.now c.args.plain.now c.lists-lists.ensures.sound (c.lists-lists.ensures.drawing ∙ c.plain.view_is) c.args.point.now c.in-Some-edge_at.edge c.lower.result c.upper.result
    (ap (find (same_point c.args.point.now)) (sym c.deref.ensures.value) ∙ sym c.vertex_at.ensures ∙ c.in_default.is)
    (ap (find (λ s. inside (edge_of s) c.args.point.now)) (sym c.deref-2.ensures.value) ∙ sym c.edge_at.ensures ∙ c.in-Some-edge_at.is)
    c.lower.ensures.value c.upper.ensures

pub returns : goal.returns
returns c =
    in_face c.lists-lists.result.now c.args.plain.now c.lists-lists.ensures.sound (c.lists-lists.ensures.drawing ∙ c.plain.view_is) c.args.point.now c.plain.inside c.plain.invariant c.plain.view_is c.cell_before-cell.result c.least_of.result c.rank_of.result
    (ap (find (same_point c.args.point.now)) (sym c.deref.ensures.value) ∙ sym c.vertex_at.ensures ∙ c.in_default.is)
    (ap (find (λ s. inside (edge_of s) c.args.point.now)) (sym c.deref-2.ensures.value) ∙ sym c.edge_at.ensures ∙ c.in_default-edge_at.is)
    (c.cell_before-cell.ensures ∙ (λ i. left_cell (drawn (c.deref-3.ensures.value i) (c.deref-4.ensures.value i)) c.args.point.now))
    c.least_of.ensures
    (c.rank_of.ensures ∙ ap (position_or_len (same_cell c.least_of.result)) c.deref-5.ensures.value)
