use Rattle.std.proofs.Common.{sym, subst}
use Rattle.exact_plane.specs.Line.{Line}
use Rattle.exact_plane.specs.Span.{AreOnWay}
use Rattle.slab_laws.specs.Pieces.{piece_of}
use Rattle.present_graphs.proofs.Fit.{piece_way}
use Rattle.present_graphs.proofs.pieces.span_of.Goals as goal

pub between-span-requires : goal.between-span-requires
between-span-requires c =
    let k = piece_of c.args.piece.now in
    subst (λ (l : Line). AreOnWay k.from k.to l) (sym c.line_of.ensures.value) (piece_way k c.requires)
