use Rattle.std.proofs.Common.{◌≡◌, suc, length, ap, arith}
use Rattle.script_lines.specs.Words.{words}
use Rattle.script_lines.proofs.WordCount.{length-words}
use Rattle.script_lines.proofs.words.count_words.Goals as goal

pub overflow_add-count : goal.overflow_add-count
overflow_add-count c =
    let one : length (words c.loop-rest.line.now) ≡ suc (length (words c.in-Some.rest.now)) = ap length c.in-Some.ensures in
    omega (arith, length-words c.args.line.now)
