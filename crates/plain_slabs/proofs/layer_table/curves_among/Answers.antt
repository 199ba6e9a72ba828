use Rattle.std.proofs.Common.{sym, ◌∙◌}
use Rattle.slab_laws.specs.declared.present.Piece.{Piece}
use Rattle.slab_laws.specs.Overlay.{runs_along}
use Rattle.slab_laws.specs.Pieces.{piece_of}
use Rattle.slab_laws.specs.SpansDrawn.{edge_of}
use Rattle.subdivision_rows.proofs.Items.{kept, passed, all_passing}
use Rattle.plain_slabs.proofs.layer_table.curves_among.Goals.{then-runs_along+in_ok-push, else-runs_along}
use Rattle.plain_slabs.proofs.layer_table.curves_among.Goals as goal

pub loop-piece-preserved : goal.loop-piece-preserved
loop-piece-preserved c =
    let runs = λ (k : Piece). runs_along (edge_of c.args.edge.now) (piece_of k) in
    let curve = λ (k : Piece). k.curve in
    let ks = c.args.pieces.now in
    let i = c.loop-piece.piece-index in
    let k = c.piece-item.result in
    elim c.if-runs_along.branch [
      | then-runs_along+in_ok-push w ↦
          kept runs curve ks i k c.loop-piece.curves.items c.if-runs_along.curves.items c.loop-piece-test.true c.piece-item.is (sym c.runs_along.ensures ∙ w.if-runs_along.true) c.loop-piece.invariant ((λ j. (w.curves-is j).items) ∙ w.in_ok-push.ensures.items)
      | else-runs_along w ↦ passed runs curve ks i k c.loop-piece.curves.items c.if-runs_along.curves.items c.loop-piece-test.true c.piece-item.is (sym c.runs_along.ensures ∙ w.if-runs_along.false) c.loop-piece.invariant (λ j. (w.curves-is j).items)
    ]

pub returns : goal.returns
returns c = all_passing (λ (k : Piece). runs_along (edge_of c.args.edge.now) (piece_of k)) (λ (k : Piece). k.curve) c.args.pieces.now c.loop-piece.piece-index c.loop-piece.curves.items c.loop-piece-test.false c.loop-piece.invariant
