use Rattle.dcel_records.specs.RecordsView.{tables_of}
use Rattle.arrangement.proofs.Started.{AreStarted}
use Rattle.arrangement.proofs.spots.starts_of.Given as goal

abbrev pub invariant-sides : goal.invariant-sides
invariant-sides l = AreStarted l.records.graph (tables_of l.records) l.sides l.sides l.starts l.place
