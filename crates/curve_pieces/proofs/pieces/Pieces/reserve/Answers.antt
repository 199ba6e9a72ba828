use Rattle.std.proofs.Common.{ap, subst, sym, ◌∙◌}
use Rattle.curve_pieces.specs.PiecesInMemory.{rows_from, IsIndexOf}
use Rattle.curve_pieces.proofs.Changed.{kept_slots, rows_seen, rows_slots}
use Rattle.curve_pieces.proofs.pieces.Pieces.reserve.Goals as goal

pub invariant_of-self-in_err-reserve-2 : goal.invariant_of-self-in_err-reserve-2
invariant_of-self-in_err-reserve-2 c = record {
  sound = kept_slots c.self.inside.rows c.reserve-2.new.self c.self.inside.ends c.self.inside.heads c.reserve.new.self (ap (λ s. s.slots) c.reserve-2.ensures.rest_kept) c.reserve.ensures.entries c.self.invariant.sound;
  boxes = subst (IsIndexOf c.self.inside.index) (sym (rows_slots c.self.inside.rows c.reserve-2.new.self c.self.inside.ends.first (ap (λ s. s.slots) c.reserve-2.ensures.rest_kept))) c.self.invariant.boxes;
}

pub returns-in_err-reserve-2-clause-rows : goal.returns-in_err-reserve-2-clause-rows
returns-in_err-reserve-2-clause-rows c = rows_slots c.self.inside.rows c.reserve-2.new.self c.self.inside.ends.first (ap (λ s. s.slots) c.reserve-2.ensures.rest_kept) ∙ rows_seen c.self.inside.rows c.self.inside.ends c.self.inside.heads _ c.self.view_is c.self.invariant.sound

pub invariant_of-self-2 : goal.invariant_of-self-2
invariant_of-self-2 c = record {
  sound = kept_slots c.self.inside.rows c.reserve-2.new.self c.self.inside.ends c.self.inside.heads c.reserve.new.self (ap (λ s. s.slots) c.reserve-2.ensures.rest_kept) c.reserve.ensures.entries c.self.invariant.sound;
  boxes = c.reserve-3.ensures (rows_from c.reserve-2.new.self c.self.inside.ends.first) (subst (IsIndexOf c.self.inside.index) (sym (rows_slots c.self.inside.rows c.reserve-2.new.self c.self.inside.ends.first (ap (λ s. s.slots) c.reserve-2.ensures.rest_kept))) c.self.invariant.boxes);
}

pub returns-clause-rows : goal.returns-clause-rows
returns-clause-rows c = rows_slots c.self.inside.rows c.reserve-2.new.self c.self.inside.ends.first (ap (λ s. s.slots) c.reserve-2.ensures.rest_kept) ∙ rows_seen c.self.inside.rows c.self.inside.ends c.self.inside.heads _ c.self.view_is c.self.invariant.sound
