use Rattle.path_zone.specs.Zoned.{sides_zoned}
use Rattle.path_zone.proofs.Gathering.{AreCrossed}
use Rattle.path_zone.proofs.zoned.add_crossings.Given as goal

abbrev pub invariant-others : goal.invariant-others
invariant-others l = AreCrossed l.side.side (sides_zoned l.others) l.side.plan l.fn.meetings.items l.meetings.items l.other-index
