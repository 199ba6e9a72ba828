use Rattle.curve_pieces.proofs.Indexed.{row_more}
use Rattle.curve_pieces.proofs.Put.{next_still, place_kept, head_still, curves_with, piece_here, pieces_kept, order_with, kept_with}
use Rattle.curve_pieces.proofs.rows.put_row.Goals as goal

pub set_before-requires : goal.set_before-requires
set_before-requires c = next_still c.args.rows.now c.args.ends.now c.requires.order c.args.place c.requires.place c.args.piece c.after_place-after.result c.args.head c.after_place-after.ensures c.insert_reserved-name.result c.insert_reserved-name.ensures.was_vacant c.insert_reserved-name.new.self c.insert_reserved-name.ensures.updates

pub set_after-requires : goal.set_after-requires
set_after-requires c = place_kept c.args.rows.now c.args.ends.now c.requires.order c.args.place c.requires.place c.args.piece c.after_place-after.result c.args.head c.after_place-after.ensures c.insert_reserved-name.result c.insert_reserved-name.ensures.was_vacant c.insert_reserved-name.new.self c.insert_reserved-name.ensures.updates c.set_before.new.rows c.set_before.ensures

pub set_prior-requires : goal.set_prior-requires
set_prior-requires c = head_still c.args.rows.now c.args.ends.now c.requires.order c.args.place c.requires.place c.args.piece c.after_place-after.result c.args.head c.after_place-after.ensures c.insert_reserved-name.result c.insert_reserved-name.ensures.was_vacant c.insert_reserved-name.new.self c.insert_reserved-name.ensures.updates c.set_before.new.rows c.set_before.ensures c.set_after.new.rows c.set_after.ensures c.requires.head.0 c.requires.head.1

pub returns-clause-order : goal.returns-clause-order
returns-clause-order c = kept_with c.args.rows.now c.args.ends.now c.requires.order c.args.place c.requires.place c.args.piece c.after_place-after.result c.args.head c.after_place-after.ensures c.insert_reserved-name.result c.insert_reserved-name.ensures.was_vacant c.insert_reserved-name.new.self c.insert_reserved-name.ensures.updates c.set_before.new.rows c.set_before.ensures c.set_after.new.rows c.set_after.ensures c.set_prior.new.rows c.set_prior.ensures c.ends_with.result c.ends_with.ensures.first c.ends_with.ensures.last

pub returns-clause-names : goal.returns-clause-names
returns-clause-names c = order_with c.args.rows.now c.args.ends.now c.requires.order c.args.place c.requires.place c.args.piece c.after_place-after.result c.args.head c.after_place-after.ensures c.insert_reserved-name.result c.insert_reserved-name.ensures.was_vacant c.insert_reserved-name.new.self c.insert_reserved-name.ensures.updates c.set_before.new.rows c.set_before.ensures c.set_after.new.rows c.set_after.ensures c.set_prior.new.rows c.set_prior.ensures c.ends_with.result c.ends_with.ensures.first c.ends_with.ensures.last

pub returns-clause-piece : goal.returns-clause-piece
returns-clause-piece c = piece_here c.args.rows.now c.args.ends.now c.requires.order c.args.place c.requires.place c.args.piece c.after_place-after.result c.args.head c.after_place-after.ensures c.insert_reserved-name.result c.insert_reserved-name.ensures.was_vacant c.insert_reserved-name.new.self c.insert_reserved-name.ensures.updates c.set_before.new.rows c.set_before.ensures c.set_after.new.rows c.set_after.ensures c.set_prior.new.rows c.set_prior.ensures

pub returns-clause-others : goal.returns-clause-others
returns-clause-others c = pieces_kept c.args.rows.now c.args.ends.now c.requires.order c.args.place c.requires.place c.args.piece c.after_place-after.result c.args.head c.after_place-after.ensures c.insert_reserved-name.result c.insert_reserved-name.ensures.was_vacant c.insert_reserved-name.new.self c.insert_reserved-name.ensures.updates c.set_before.new.rows c.set_before.ensures c.set_after.new.rows c.set_after.ensures c.set_prior.new.rows c.set_prior.ensures

pub returns-clause-curves : goal.returns-clause-curves
returns-clause-curves c = λ heads l. curves_with c.args.rows.now c.args.ends.now c.requires.order c.args.place c.requires.place c.args.piece c.after_place-after.result c.args.head c.after_place-after.ensures c.insert_reserved-name.result c.insert_reserved-name.ensures.was_vacant c.insert_reserved-name.new.self c.insert_reserved-name.ensures.updates c.set_before.new.rows c.set_before.ensures c.set_after.new.rows c.set_after.ensures heads l c.set_prior.new.rows c.set_prior.ensures

pub returns-clause-more : goal.returns-clause-more
returns-clause-more c = row_more c.args.rows.now c.set_prior.new.rows c.args.ends.now c.ends_with.result c.requires.order c.insert_reserved-name.result (returns-clause-others c) c.args.piece c.args.place (returns-clause-order c) c.insert_reserved-name.ensures.was_vacant (returns-clause-piece c) (returns-clause-names c)
