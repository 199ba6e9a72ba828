use Rattle.std.proofs.Common.{refl}
use Rattle.script_lines.proofs.LineAnswers.{long_exactly, byte_exactly, word_exactly, count_exactly, number_exactly, range_exactly, nothing_exactly}
use Rattle.script_lines.proofs.command.read_line.Goals as goal

pub returns : goal.returns
returns c =
    let line = c.args.line.now in
    let r = c.read.result in
    let is = c.read.ensures in
    record {
      value = is;
      long = long_exactly line r is;
      byte = byte_exactly line r is;
      word = word_exactly line r is;
      count = count_exactly line r is;
      number = number_exactly line r is;
      range = range_exactly line r is;
      nothing = nothing_exactly line r is;
      limit = refl;
    }
