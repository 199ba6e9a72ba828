-- The plan of the insertion of a curve of several sides, as contracts see it.
use Rattle.std.specs.Prelude.{List}
use Rattle.zone_walk.specs.declared.plan.Meeting.{Meeting}

-- the vertices on the sides once they are inserted
pub record PathPlan : Type 0 where
  pub vertices : List Meeting
