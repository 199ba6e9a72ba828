use Rattle.std.proofs.Common.{rules}
use Rattle.exact_plane.proofs.whole_parts.BoundingBox.of.Goals as goal

pub returns : goal.returns
returns c = search rules
