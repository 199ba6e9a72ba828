use Rattle.std.proofs.Common.{◌≡◌, ◌++◌, codes, take, rules}
use Rattle.script_maker.specs.Script.{spaced}
use Rattle.script_maker.proofs.Parts.{four_appended}
use Rattle.script_maker.proofs.put.put_segment.Goals as goal

pub returns-clause-put : goal.returns-clause-put
returns-clause-put c =
    let ends = c.args.ends in
    let one : take c.put_number-at.result c.put_number-at.new.buffer ≡ codes "segment" ++ spaced ends.x1 = search rules in
    let two : take c.put_number-at-2.result c.put_number-at-2.new.buffer
    ≡ take c.put_number-at.result c.put_number-at.new.buffer ++ spaced ends.y1 = search rules in
    let three : take c.put_number-at-3.result c.put_number-at-3.new.buffer
    ≡ take c.put_number-at-2.result c.put_number-at-2.new.buffer ++ spaced ends.x2 = search rules in
    let four : take c.put_number.result c.put_number.new.buffer
    ≡ take c.put_number-at-3.result c.put_number-at-3.new.buffer ++ spaced ends.y2 = search rules in
    four_appended (take c.put_number-at.result c.put_number-at.new.buffer) (take c.put_number-at-2.result c.put_number-at-2.new.buffer)
    (take c.put_number-at-3.result c.put_number-at-3.new.buffer) (take c.put_number.result c.put_number.new.buffer) (codes "segment")
    (spaced ends.x1) (spaced ends.y1) (spaced ends.x2) (spaced ends.y2) one two three four
