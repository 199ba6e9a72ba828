use Rattle.dcel_records.proofs.Places.{first_has, linked_first}
use Rattle.dcel_records.proofs.links.link_first.Goals as goal

pub set_before-requires : goal.set_before-requires
set_before-requires g c =
    first_has g.R.Placed.placing c.args.rows.now c.args.faces.now c.args.at c.args.face c.requires.chained c.requires.has c.index.result.now c.index.ensures c.first-first.result
    c.first-first.ensures c.set_place.new.rows c.set_place.ensures

pub returns : goal.returns
returns g c =
    linked_first g.R.Placed.placing c.args.rows.now c.args.faces.now c.args.at c.args.face c.requires.chained c.requires.has c.index.result.now c.index.ensures c.first-first.result
    c.first-first.ensures c.set_place.new.rows c.set_place.ensures c.set_before.new.rows c.set_before.ensures c.set_first.new.faces c.set_first.ensures
