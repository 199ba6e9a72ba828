use Rattle.std.proofs.Common.{◌≡◌, take}
use Rattle.side_parts.proofs.parts.sides_of.Given as goal

abbrev pub invariant-each : goal.invariant-each
invariant-each l = l.sides.items ≡ take l.segment-index l.segments
