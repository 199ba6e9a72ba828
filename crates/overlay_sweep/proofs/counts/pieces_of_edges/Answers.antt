use Rattle.std.proofs.Common.{◌≡◌, ◌≤◌, ℕ, List, length, ap, sym, ◌∙◌, subst}
use Rattle.std.proofs.lemmas.List.{length-map}
use Rattle.std.proofs.lemmas.List.Sums.{prefix_len-le-length}
use Rattle.slab_laws.specs.declared.present.Piece.{Piece}
use Rattle.slab_laws.specs.Pieces.{piece_of, present_of}
use Rattle.overlay_sweep.specs.EdgePieces.{own_counts}
use Rattle.overlay_sweep.proofs.PieceCounts.{count_added, counts_end, pieces_are}
use Rattle.overlay_sweep.proofs.counts.pieces_of_edges.Goals as goal

pub split_at-requires : goal.split_at-requires
split_at-requires c = subst (λ n. n ≤ length c.loop-edge.rest.now) (sym c.count_along.ensures) (prefix_len-le-length _ c.loop-edge.rest.now)

pub loop-edge-preserved : goal.loop-edge-preserved
loop-edge-preserved c =
    count_added c.args.first (length c.as_slice-count.result.now) c.args.whole.now.edges.items c.deref-edge-items.result.now c.loop-edge.edge-index _ c.loop-edge.rest.now c.split_at.result.0.now c.split_at.result.1.now c.loop-edge.counts.items _ c.count_own.result _ c.count_along.result
    c.deref-edge-items.ensures.value c.loop-edge-test.true c.count_along.ensures c.split_at.ensures.front c.split_at.ensures.back
    c.count_own.ensures c.in_ok-push.ensures.items c.loop-edge.invariant

pub returns : goal.returns
returns c =
    λ w fit h from.
    let n : length c.as_slice-count.result.now ≡ length (present_of c.args.layer.now).pieces = ap (λ (ks : List Piece). length ks) c.as_slice-count.ensures ∙ sym (length-map c.args.layer.now.pieces piece_of) in
    counts_end c.args.first (length c.as_slice-count.result.now) c.args.whole.now.edges.items c.deref-edge-items.result.now c.loop-edge.edge-index c.loop-edge.rest.now c.loop-edge.counts.items _ c.deref-edge-items.ensures.value c.loop-edge-test.false c.loop-edge.invariant
    ∙ ap (λ (m : ℕ). own_counts c.args.first m c.args.whole.now.edges.items c.args.whole.now.stretches.items) n
    ∙ pieces_are w fit (present_of c.args.layer.now) c.args.whole.now c.args.first h from
