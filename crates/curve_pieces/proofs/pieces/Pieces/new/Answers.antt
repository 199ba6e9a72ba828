use Rattle.std.proofs.Common.{subst, sym}
use Rattle.curve_pieces.specs.PiecesInMemory.{IsIndexOf}
use Rattle.curve_pieces.proofs.Changed.{kept_nothing, nothing_seen}
use Rattle.curve_pieces.proofs.pieces.Pieces.new.Goals as goal

pub invariant_of-result : goal.invariant_of-result
invariant_of-result c = record {
  sound = kept_nothing c.new.result c.new-2.result c.new.ensures.empty c.new-2.ensures.empty;
  boxes = subst (IsIndexOf c.new-3.result) (sym (nothing_seen c.new.result c.new.ensures.empty)) c.new-3.ensures.rows;
}

pub returns : goal.returns
returns c = record { rows = nothing_seen c.new.result c.new.ensures.empty; indexed = c.new-3.ensures.whole }
