use Rattle.std.proofs.Common.{sym, ◌∙◌}
use Rattle.std.proofs.lemmas.Bool.{false≢true}
use Rattle.plane_graphs.proofs.Lines.{point_is_proper}
use Rattle.slab_laws.specs.Pieces.{piece_of}
use Rattle.piece_location.proofs.Looking.{boxed, named, seen_slanted}
use Rattle.piece_location.proofs.highest.Highest.look_at.Goals as goal

pub piece-requires : goal.piece-requires
piece-requires c = named c.args.self.now.history.now.rows c.args.entry.now c.requires.entry

pub take-requires-clause-slanted : goal.take-requires-clause-slanted
take-requires-clause-slanted c = seen_slanted c.args.self.now.point (piece_of c.piece.result.now) (c.requires.fit (c.args.entry.now.name, c.piece.result.now) c.piece.ensures) (point_is_proper c.args.self.now.point c.requires.place)

pub returns : goal.returns
returns c =
    record {
      met = λ s. absurd (false≢true (sym c.if-is_some.false ∙ c.is_some.ensures ∙ s));
      found = λ own. (c.piece.result.now, c.piece.ensures, boxed c.args.self.now.history.now.rows c.args.entry.now c.requires.once c.requires.entry c.piece.result.now c.piece.ensures, c.lie_of-lie.result, c.lie_of-lie.ensures, c.take.ensures.taken);
      rises = c.take.ensures.rises;
    }
