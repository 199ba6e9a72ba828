use Rattle.zone_walk.proofs.Gathering.{IsTaking}
use Rattle.zone_walk.proofs.search.take_all.Given as goal

abbrev pub invariant-each : goal.invariant-each
invariant-each l = IsTaking l.fn.search l.search l.meetings l.meeting-index
