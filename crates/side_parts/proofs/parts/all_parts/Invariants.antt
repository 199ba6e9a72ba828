use Rattle.side_parts.proofs.Walked.{IsGathering}
use Rattle.side_parts.proofs.parts.all_parts.Given as goal

abbrev pub invariant-each : goal.invariant-each
invariant-each l = IsGathering l.points l.sides l.parts.items l.place
