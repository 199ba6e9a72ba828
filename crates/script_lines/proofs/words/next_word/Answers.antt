use Rattle.std.proofs.Common.{rules, ◌<◌, length}
use Rattle.script_lines.proofs.FirstWord.{first_word}
use Rattle.script_lines.proofs.words.next_word.Goals as goal

pub returns : goal.returns
returns c =
    let some : 0 < length c.trimmed-line.result.now = search rules in
    let e = first_word c.trimmed-line.result.now c.word_len.result some c.trimmed-line.ensures.front c.word_len.ensures.within c.word_len.ensures.before c.word_len.ensures.found in
    rw (← c.trimmed-line.ensures.words, c.split_at.ensures.front, c.split_at.ensures.back) e
