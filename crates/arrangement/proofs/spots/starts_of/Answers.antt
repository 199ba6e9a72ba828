use Rattle.dcel_records.specs.RecordsView.{tables_of}
use Rattle.arrangement.proofs.Started.{started_next}
use Rattle.arrangement.proofs.spots.starts_of.Goals as goal

pub sides-preserved : goal.sides-preserved
sides-preserved c =
    let v = c.args.records.now.graph in
    let f = tables_of c.args.records.now in
    started_next v f c.args.sides.now c.args.sides.now c.requires.few c.sides.starts c.sides.place c.sides.invariant c.index-sides-place.result c.start_of.result c.sides-test.true c.index-sides-place.is c.start_of.ensures
