use Rattle.std.proofs.Common.{subst, sym}
use Rattle.curve_pieces.specs.PiecesInMemory.{IsIndexOf}
use Rattle.curve_pieces.proofs.Changed.{kept_nothing, nothing_seen}
use Rattle.curve_pieces.proofs.pieces.Pieces.clear.Goals as goal

pub invariant_of-self : goal.invariant_of-self
invariant_of-self c = record {
  sound = kept_nothing c.clear.new.self c.clear-2.new.self c.clear.ensures.empty c.clear-2.ensures.empty;
  boxes = subst (IsIndexOf c.clear-3.new.self) (sym (nothing_seen c.clear.new.self c.clear.ensures.empty)) c.clear-3.ensures.rows;
}

pub returns-clause-rows : goal.returns-clause-rows
returns-clause-rows c = nothing_seen c.clear.new.self c.clear.ensures.empty
