use Rattle.std.proofs.Common.{rules}
use Rattle.exact_plane.proofs.line.Line.holds.Goals as goal

pub returns : goal.returns
returns c = search rules
