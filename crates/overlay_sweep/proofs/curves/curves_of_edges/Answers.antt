use Rattle.std.proofs.Common.{◌≤◌, List, length, ap, sym, ◌∙◌, subst}
use Rattle.std.proofs.lemmas.List.Sums.{prefix_len-le-length}
use Rattle.slab_laws.specs.declared.present.Piece.{Piece}
use Rattle.overlay_sweep.specs.EdgeCurves.{own_numbers}
use Rattle.overlay_sweep.proofs.CurveRows.{row_added, rows_end, curves_are}
use Rattle.overlay_sweep.proofs.curves.curves_of_edges.Goals as goal

pub split_at-requires : goal.split_at-requires
split_at-requires c = subst (λ n. n ≤ length c.loop-edge.rest.now) (sym c.count_along.ensures) (prefix_len-le-length _ c.loop-edge.rest.now)

pub loop-edge-preserved : goal.loop-edge-preserved
loop-edge-preserved c =
    row_added c.args.layer.now.pieces c.args.first c.args.whole.now.edges.items c.deref-edge-items.result.now c.loop-edge.edge-index _ c.loop-edge.rest.now c.split_at.result.0.now c.split_at.result.1.now c.loop-edge.rows.items _ c.in_ok-arranged_curves.field-0 _ c.count_along.result
    c.deref-edge-items.ensures.value c.loop-edge-test.true c.count_along.ensures c.split_at.ensures.front c.split_at.ensures.back
    (c.in_ok-arranged_curves.ensures ∙ ap (λ (ks : List Piece). own_numbers ks c.args.first c.split_at.result.0.now) c.as_slice.ensures)
    c.in_ok-push.ensures.items c.loop-edge.invariant

pub returns : goal.returns
returns c =
    λ w fit h from.
    rows_end c.args.layer.now.pieces c.args.first c.args.whole.now.edges.items c.deref-edge-items.result.now c.loop-edge.edge-index c.loop-edge.rest.now c.loop-edge.rows.items _ c.deref-edge-items.ensures.value c.loop-edge-test.false c.loop-edge.invariant
    ∙ curves_are w fit c.args.layer.now c.args.whole.now c.args.first h from
