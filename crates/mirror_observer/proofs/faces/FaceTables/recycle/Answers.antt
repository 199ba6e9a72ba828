use Rattle.mirror_observer.specs.FaceTables.{faces_in}
use Rattle.mirror_observer.proofs.Recycling.{rows_of_darts, has_named, walked, nowhere}
use Rattle.mirror_observer.proofs.faces.FaceTables.recycle.Goals as goal

pub set_orbit-requires-clause-rows : goal.set_orbit-requires-clause-rows
set_orbit-requires-clause-rows c = rows_of_darts c.args.darts.now.entries (faces_in c.args.self.now) c.requires.sound

pub returns-in-Some : goal.returns-in-Some
returns-in-Some c =
    let ds = c.args.darts.now.entries in
    let f = faces_in c.args.self.now in
    let on = c.in-Some.ensures.some in
    walked ds f c.requires.sound c.args.gone c.args.kept c.in-Some.d (has_named ds f c.requires.sound c.args.first c.in-Some.d c.requires.first on.0) on.1 _ c.set_orbit.ensures

pub set_orbit-requires-in-Some-if_on-clause-rows : goal.set_orbit-requires-in-Some-if_on-clause-rows
set_orbit-requires-in-Some-if_on-clause-rows c = rows_of_darts c.args.darts.now.entries (faces_in c.args.self.now) c.requires.sound

pub returns-in-Some-if_on : goal.returns-in-Some-if_on
returns-in-Some-if_on c =
    let ds = c.args.darts.now.entries in
    let f = faces_in c.args.self.now in
    let on = c.in-Some-if_on.ensures.some in
    walked ds f c.requires.sound c.args.gone c.args.kept c.in-Some-if_on.d (has_named ds f c.requires.sound c.args.second c.in-Some-if_on.d c.requires.second on.0) on.1 _ c.set_orbit-in-Some-if_on.ensures

pub returns-in_default-if_on : goal.returns-in_default-if_on
returns-in_default-if_on c =
    nowhere c.args.darts.now.entries (faces_in c.args.self.now) c.requires.sound c.args.gone c.args.kept c.args.first c.args.second c.requires.found c.in_default.ensures.none c.in_default-if_on.ensures.none
