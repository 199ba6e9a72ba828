use Rattle.std.proofs.Common.{sym, subst}
use Rattle.exact_plane.specs.Line.{Line, IsOn}
use Rattle.plane_graphs.proofs.Lines.{along_out}
use Rattle.plane_graphs.proofs.Order.{lt_out}
use Rattle.slab_laws.specs.Pieces.{piece_of}
use Rattle.piece_location.proofs.Layers.{fit_rows}
use Rattle.piece_zone.proofs.told.span_of.Goals as goal

pub between-span-requires : goal.between-span-requires
between-span-requires c =
    let (v, past) = c.requires.past in
    let (n, here) = c.requires.piece in
    let k = piece_of c.args.piece.now in
    let f = fit_rows v c.args.history.now past c.row_laws.ensures.pieces (n, c.args.piece.now) here in
    record { ascending = (lt_out k.from k.to f.forward).is; lower_on = subst (λ (l : Line). IsOn l k.from) (sym c.line_of.ensures.value) (along_out k k.from f.from_on); upper_on = subst (λ (l : Line). IsOn l k.to) (sym c.line_of.ensures.value) (along_out k k.to f.to_on) }
