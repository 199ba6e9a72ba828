use Rattle.segment_insert.proofs.PathSides.{AreListed}
use Rattle.segment_insert.proofs.paths.points_of.Given as goal

abbrev pub invariant-each : goal.invariant-each
invariant-each l = AreListed l.meetings l.points.items l.meeting-index
