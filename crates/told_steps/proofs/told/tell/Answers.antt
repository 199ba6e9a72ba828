use Rattle.told_steps.proofs.Seen.{drawn_seen, drawn_sound, held_seen, leads_by, round_seen, told_records}
use Rattle.told_steps.proofs.told.tell.Goals as goal

pub new-drawn-requires : goal.new-drawn-requires
new-drawn-requires g c = told_records c.args.records.now.graph c.args.history.now c.requires.sound.graph c.requires.curves

pub say-requires-clause-sound : goal.say-requires-clause-sound
say-requires-clause-sound g c = drawn_sound c.args.records.now c.args.history.now c.requires.sound c.requires.curves _ _ c.new-drawn.ensures.records c.new-drawn.ensures.history

pub returns-clause-round : goal.returns-clause-round
returns-clause-round g c = round_seen c.args.records.now c.args.history.now c.requires.sound c.requires.curves _ _ c.new-drawn.ensures.records c.new-drawn.ensures.history c.args.note.now c.say.ensures.round

pub returns-clause-holds : goal.returns-clause-holds
returns-clause-holds g c v holds leads =
    let now = drawn_seen c.args.records.now c.args.history.now c.requires.sound c.requires.curves _ _ c.new-drawn.ensures.records c.new-drawn.ensures.history in
    held_seen c.args.records.now c.args.history.now c.requires.sound c.requires.curves _ _ c.new-drawn.ensures.records c.new-drawn.ensures.history _ (c.say.ensures.holds v holds (leads_by v c.args.note.now now leads))
