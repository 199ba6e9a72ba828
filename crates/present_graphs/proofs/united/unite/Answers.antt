use Rattle.std.proofs.Common.{ap₂, ◌∙◌, ◌++◌}
use Rattle.exact_plane.specs.PointOrder.{point_cmp}
use Rattle.plane_graphs.specs.Ascending.{ascending}
use Rattle.overlay_laws.specs.United.{united}
use Rattle.present_graphs.proofs.Numbering.{both_numbered}
use Rattle.present_graphs.proofs.united.unite.Goals as goal

pub returns : goal.returns
unfolding united
returns c =
    let red = c.args.red.now in
    let blue = c.args.blue.now in
    let pieces =
    both_numbered c.new-pieces.result c.add_pieces.new.all c.add_pieces-2.new.all red.pieces blue.pieces c.new-pieces.ensures
    (rw c.as_slice.ensures at c.in_ok-add_pieces.ensures)
    (rw c.as_slice-2.ensures at c.in_ok-add_pieces-2.ensures)
    in
    let pins = c.in_ok-pins.ensures ∙ c.deref.ensures.value ∙ c.in_ok-points.ensures ∙ ap₂ (λ xs ys. ascending point_cmp (xs ++ ys)) c.as_slice-3.ensures c.as_slice-4.ensures in
    λ i. record { pieces = pieces i; pins = pins i }
