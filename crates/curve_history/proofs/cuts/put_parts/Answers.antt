use Rattle.std.proofs.Common.{◌∙◌, arith}
use Rattle.curve_history.proofs.Replaced.{as_many, both_parts, first_part, last_part, no_part, put_none, put_one, put_two, still_has, still_of}
use Rattle.curve_history.proofs.cuts.put_parts.Goals as goal

pub put_after-requires-clause-has : goal.put_after-requires-clause-has
put_after-requires-clause-has c = still_has c.args.pieces.now c.set.new.self c.args.name c.args.below c.set.ensures.rows c.requires.has

pub put_after-requires-clause-curve : goal.put_after-requires-clause-curve
put_after-requires-clause-curve c = still_of c.args.pieces.now c.set.new.self c.args.name c.args.below c.set.ensures.rows c.requires.has c.args.above.curve c.requires.below c.requires.above

pub put_after-requires-clause-room : goal.put_after-requires-clause-room
put_after-requires-clause-room c = omega (arith, as_many c.args.pieces.now c.set.new.self c.args.name c.args.below c.set.ensures.rows c.requires.has, c.set.ensures.capacity, c.requires.room c.if-begins.true c.if-ends.true)

pub set-requires-then-ends-2-clause-curve : goal.set-requires-then-ends-2-clause-curve
set-requires-then-ends-2-clause-curve c = λ k m. c.requires.below k m ∙ c.requires.above

pub returns-then-ends-clause-rows : goal.returns-then-ends-clause-rows
returns-then-ends-clause-rows c = put_two c.args.pieces.now c.set.new.self c.args.name c.args.below c.set.ensures.rows c.put_after.new.self c.put_after.result c.args.above c.put_after.ensures.rows _ (both_parts _ _ _ _ c.if-begins.true c.if-ends.true)

pub returns-else-ends-clause-rows : goal.returns-else-ends-clause-rows
returns-else-ends-clause-rows c = put_one c.args.pieces.now c.set.new.self c.args.name c.args.below c.set.ensures.rows _ (first_part _ _ _ _ c.if-begins.true c.if-ends.false)

pub returns-then-ends-2-clause-rows : goal.returns-then-ends-2-clause-rows
returns-then-ends-2-clause-rows c = put_one c.args.pieces.now c.set-then-ends-2.new.self c.args.name c.args.above c.set-then-ends-2.ensures.rows _ (last_part _ _ _ _ c.if-begins.false c.if-ends-2.true)

pub returns-else-ends-2-clause-rows : goal.returns-else-ends-2-clause-rows
returns-else-ends-2-clause-rows c = put_none c.args.pieces.now c.remove.new.self c.args.name c.remove.ensures.rows _ (no_part _ _ _ _ c.if-begins.false c.if-ends-2.false)
