use Rattle.dcel_records.proofs.Places.{node_row, node_is, before_has, after_has, face_has, unlinked}
use Rattle.dcel_records.proofs.links.unlink.Goals as goal

pub index-requires : goal.index-requires
index-requires g c = node_row g.R.Placed.placing c.args.rows.now c.args.at c.requires.has

pub set_after-requires : goal.set_after-requires
set_after-requires g c =
    before_has g.R.Placed.placing c.args.rows.now c.args.faces.now c.requires.chained c.args.at c.place-place.result
    (node_is g.R.Placed.placing c.args.rows.now c.args.at c.index.result.now c.place-place.result c.index.ensures c.place-place.ensures)

pub set_before-requires : goal.set_before-requires
set_before-requires g c =
    after_has g.R.Placed.placing c.args.rows.now c.args.faces.now c.requires.chained c.args.at c.place-place.result
    (node_is g.R.Placed.placing c.args.rows.now c.args.at c.index.result.now c.place-place.result c.index.ensures c.place-place.ensures) c.set_after.new.rows c.set_after.ensures

pub set_first-requires : goal.set_first-requires
set_first-requires g c =
    face_has g.R.Placed.placing c.args.rows.now c.args.faces.now c.requires.chained c.args.at c.place-place.result
    (node_is g.R.Placed.placing c.args.rows.now c.args.at c.index.result.now c.place-place.result c.index.ensures c.place-place.ensures)

pub returns : goal.returns
returns g c =
    unlinked g.R.Placed.placing c.args.rows.now c.args.faces.now c.requires.chained c.args.at c.place-place.result
    (node_is g.R.Placed.placing c.args.rows.now c.args.at c.index.result.now c.place-place.result c.index.ensures c.place-place.ensures) c.set_after.new.rows c.set_after.ensures
    c.set_before.new.rows c.set_before.ensures c.set_first.new.faces c.set_first.ensures
