use Rattle.side_parts.specs.SideParts.{holds}
use Rattle.side_parts.proofs.Walked.{IsAdding}
use Rattle.side_parts.proofs.parts.add_parts.Given as goal

abbrev pub invariant-each : goal.invariant-each
invariant-each l = IsAdding l.fn.parts.items l.points (holds l.side) l.place l.parts.items l.last l.at
