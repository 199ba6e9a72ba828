use Rattle.std.proofs.Common.{rules}
use Rattle.script_lines.proofs.form.segment_from.Goals as goal

pub returns : goal.returns
returns c = search rules
