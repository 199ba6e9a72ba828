use Rattle.std.proofs.Common.{rules, arith, refl, sym, subst, ap, ◌∙◌}
use Rattle.std.proofs.lemmas.List.{length-map}
use Rattle.observer_bus.specs.Rounds.{HaveRoom, noted}
use Rattle.observer_bus.specs.Seats.{MayHear}
use Rattle.observer_bus.proofs.Turns.{fits_here, goes_on_by, goes_by, starts, ends, room_by, joins_by, shorter_by}
use Rattle.observer_bus.proofs.round.forward.Goals as goal

pub turns-init : goal.turns-init
turns-init g c = record {
  capacity = refl;
  going = starts _ _ _ _ c.requires.fits (subst (λ js. HaveRoom js c.args.went.now) (sym (joins_by _ c.args.seats.now.items)) c.requires.room);
}

pub turn-fate-requires-clause-fits : goal.turn-fate-requires-clause-fits
turn-fate-requires-clause-fits g c = fits_here _ (MayHear c.args.note.now) c.turns.seats.items c.turns.i c.index_mut-seat.result.now c.turns.invariant.going.fits (omega arith) c.index_mut-seat.ensures.value

pub note-requires : goal.note-requires
note-requires g c = room_by _ c.turns.seats.items c.turns.i c.index_mut-seat.result.now (omega arith) c.index_mut-seat.ensures.value c.turns.went c.turns.invariant.going.room c.turn-fate.result c.turn-fate.ensures.fate

pub turns-preserved-then-stays : goal.turns-preserved-then-stays
turns-preserved-then-stays g c = record {
  capacity = search rules;
  going = goes_on_by _ _ _ _ _ _ _ _ _ c.turns.invariant.going (omega arith) c.index_mut-seat.ensures.value _ c.turn-fate.ensures.fate _
      (c.note.ensures.noted ∙ ap (λ k. noted c.turn-fate.result k c.turns.went) c.name-name.ensures) _ (c.turn-fate.ensures.kept (sym c.stays.ensures ∙ c.if-stays.true));
}

pub turns-preserved : goal.turns-preserved
turns-preserved g c = record {
  capacity = search rules;
  going = goes_by _ _ _ _ _ _ _ _ _ c.turns.invariant.going (omega arith) c.index_mut-seat.ensures.value _ c.turn-fate.ensures.fate _
      (c.note.ensures.noted ∙ ap (λ k. noted c.turn-fate.result k c.turns.went) c.name-name.ensures) _ _ (c.turn-fate.ensures.gone (sym c.stays.ensures ∙ c.if-stays.false)) c.remove-gone.ensures.by_index.2;
}

pub returns-clause-shorter : goal.returns-clause-shorter
returns-clause-shorter g c = shorter_by _ _ _ _ _ _ _ (ends _ _ _ _ _ _ _ c.turns.invariant.going (rw length-map (omega arith)))

pub returns-clause-room : goal.returns-clause-room
returns-clause-room g c = subst (λ js. HaveRoom js c.turns.went) (joins_by _ c.turns.seats.items) c.turns.invariant.going.room

pub returns-clause-round : goal.returns-clause-round
returns-clause-round g c = ends _ _ _ _ _ _ _ c.turns.invariant.going (rw length-map (omega arith))
