use Rattle.std.proofs.Common.{◌∷◌, [], ◌++◌, sym, ap, ◌∙◌, subst, ⊎_elim}
use Rattle.exact_plane.specs.Span.{Span, IsSpan}
use Rattle.plane_graphs.specs.Ascending.{Member}
use Rattle.plane_graphs.proofs.Lists.{in_map, in_either}
use Rattle.slab_laws.specs.Pieces.{piece_of}
use Rattle.present_graphs.specs.Spans.{span_of_piece}
use Rattle.plane_graphs.proofs.Loops.{read_in, read_map, below_map, past_map, mapped, all_mapped}
use Rattle.present_graphs.proofs.pieces.spans_of.Goals as goal

pub returns : goal.returns
returns c = record {
  items = all_mapped span_of_piece _ c.loop-piece.piece-index c.loop-piece.spans.items (past_map piece_of c.args.pieces.now c.loop-piece.piece-index c.loop-piece-test.false) c.loop-piece.invariant.items;
  spans = c.loop-piece.invariant.spans;
}

pub span_of-requires : goal.span_of-requires
span_of-requires c = let k = c.piece-item.result in c.requires (piece_of k) (in_map piece_of k c.args.pieces.now (read_in c.args.pieces.now c.loop-piece.piece-index k c.loop-piece-test.true c.piece-item.is))

pub loop-piece-preserved : goal.loop-piece-preserved
loop-piece-preserved c =
    let i = c.loop-piece.piece-index in
    let ks = c.args.pieces.now in
    let k = c.piece-item.result in
    let now = c.loop-piece.spans.items in
    let new = c.in_ok-push.ensures.items in
    record {
      items = mapped span_of_piece _ i (piece_of k) now _ (below_map piece_of ks i c.loop-piece-test.true) (read_map piece_of ks i k c.loop-piece-test.true c.piece-item.is) c.loop-piece.invariant.items (new ∙ ap (λ (s : Span). now ++ s ∷ []) c.span_of.ensures.value);
      spans = λ s m. ⊎_elim (λ l. c.loop-piece.invariant.spans s l) (λ l. ⊎_elim (λ e. subst IsSpan (sym e) c.span_of.ensures.span) (λ z. absurd z) l) (in_either s now (c.span_of.result ∷ []) (subst (λ ss. Member s ss) new m));
    }
