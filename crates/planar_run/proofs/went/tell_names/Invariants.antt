use Rattle.std.proofs.Common.{◌≡◌, ◌≤◌, ◌+◌, ◌*◌, ◌++◌, length, take}
use Rattle.planar_run.specs.Text.{names_text}
use Rattle.planar_run.proofs.went.tell_names.Given as goal

abbrev pub invariant-loop-name : goal.invariant-loop-name
invariant-loop-name l = record {
  text : l.reply ≡ l.fn.reply ++ names_text l.word (take l.name-index l.names);
  short : length l.reply ≤ length l.fn.reply + 18 * l.name-index;
}
