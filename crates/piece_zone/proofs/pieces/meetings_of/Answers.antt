use Rattle.plane_graphs.proofs.Sorting.{member_at}
use Rattle.piece_zone.proofs.Layers.{all_asked, next_told, none_asked}
use Rattle.piece_zone.proofs.pieces.meetings_of.Goals as goal

pub each-init : goal.each-init
each-init c = λ s ends e. none_asked c.args.records.now.graph c.args.history.now s c.args.shown.now c.new-meetings.result.items c.new-meetings.ensures.items

pub piece-requires : goal.piece-requires
piece-requires c = c.requires.named _ (member_at c.args.shown.now c.each.name-index 0 c.each-test.true)

pub meeting_with-told-requires-clause-piece : goal.meeting_with-told-requires-clause-piece
meeting_with-told-requires-clause-piece c = (_, c.piece.ensures)

pub each-preserved : goal.each-preserved
each-preserved c = λ s ends e.
    next_told c.args.records.now.graph c.args.history.now s c.args.shown.now c.each.meetings.items c.each.name-index (c.each.invariant s ends e) c.each-test.true c.piece.result.now c.piece.ensures c.meeting_with-told.result (c.meeting_with-told.ensures s ends e) c.add.new.meetings.items c.in_ok-add.ensures

pub returns : goal.returns
returns c = λ s ends e. all_asked c.args.records.now.graph c.args.history.now s c.args.shown.now c.each.meetings.items c.each.name-index (c.each.invariant s ends e) c.each-test.false
