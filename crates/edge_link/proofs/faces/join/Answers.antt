use Rattle.std.proofs.Common.{sym, ap, subst, ◌∙◌}
use Rattle.slab_laws.specs.View.{HasCycle, cycle_in}
use Rattle.dcel_records.specs.RecordsView.{FacesView}
use Rattle.edge_link.proofs.Joined.{first_known, second_known, first_ahead, second_ahead, first_written, second_written, first_goes, second_goes, cycle_stays, none_on, join_made}
use Rattle.edge_link.proofs.faces.join.Goals as goal

pub next-from-requires : goal.next-from-requires
next-from-requires c = let e = c.link_on-names.ensures in first_known c.args.records.now c.link_on-names.new.records c.link_on-names.result c.args.u c.args.v c.args.at_u c.args.at_v c.args.line c.requires.map c.requires.fits c.requires.two e.new_darts e.graph e.sound

pub put_run-requires-clause-from : goal.put_run-requires-clause-from
put_run-requires-clause-from c = let e = c.link_on-names.ensures in (first_ahead c.args.records.now c.link_on-names.new.records c.link_on-names.result c.args.u c.args.v c.args.at_u c.args.at_v c.args.line c.requires.map c.requires.fits c.requires.two e.new_darts e.graph e.sound c.next-from.result c.next-from.ensures).0

pub put_run-requires-clause-to : goal.put_run-requires-clause-to
put_run-requires-clause-to c = let e = c.link_on-names.ensures in second_known c.args.records.now c.link_on-names.new.records c.link_on-names.result c.args.u c.args.v c.args.at_u c.args.at_v c.args.line c.requires.map c.requires.fits c.requires.two e.new_darts e.graph e.sound

pub put_run-requires-clause-together : goal.put_run-requires-clause-together
put_run-requires-clause-together c = let e = c.link_on-names.ensures in (first_ahead c.args.records.now c.link_on-names.new.records c.link_on-names.result c.args.u c.args.v c.args.at_u c.args.at_v c.args.line c.requires.map c.requires.fits c.requires.two e.new_darts e.graph e.sound c.next-from.result c.next-from.ensures).1

pub put_run-requires-clause-cycle : goal.put_run-requires-clause-cycle
put_run-requires-clause-cycle c = subst (λ (z : FacesView). HasCycle z.tables c.cycle-first.result) (sym c.link_on-names.ensures.faces) c.cycle-first.ensures.has

pub remove_cycle-requires-clause-off : goal.remove_cycle-requires-clause-off
remove_cycle-requires-clause-off c =
    let e = c.link_on-names.ensures in
    let r = c.put_run.ensures.run in
    let p = c.cycle-first.ensures.cycle ∙ ap (cycle_in c.args.records.now.faces.tables) c.twin-behind_u.ensures.twin in
    let q = c.cycle-second.ensures.cycle ∙ ap (cycle_in c.args.records.now.faces.tables) c.twin-behind_v.ensures.twin in
    let w = second_written c.args.records.now c.link_on-names.new.records c.link_on-names.result c.args.u c.args.v c.args.at_u c.args.at_v c.args.line c.requires.map c.requires.fits c.requires.two e.new_darts e.graph e.sound c.cycle-first.result c.cycle-second.result c.next-from.result r.0 p q c.next-from.ensures r.1 in
    none_on c.args.records.now c.link_on-names.new.records c.link_on-names.result c.args.u c.args.v c.args.at_u c.args.at_v c.args.line c.requires.map c.requires.fits c.requires.two e.new_darts e.graph e.sound c.put_run.new.records c.cycle-first.result c.cycle-second.result r.0 e.faces r.2 w (λ e. c.requires.two (sym p ∙ e ∙ q)) c.put_run.ensures.graph

pub remove_cycle-requires-clause-cycle : goal.remove_cycle-requires-clause-cycle
remove_cycle-requires-clause-cycle c =
    let e = c.link_on-names.ensures in
    let r = c.put_run.ensures.run in
    let p = c.cycle-first.ensures.cycle ∙ ap (cycle_in c.args.records.now.faces.tables) c.twin-behind_u.ensures.twin in
    let q = c.cycle-second.ensures.cycle ∙ ap (cycle_in c.args.records.now.faces.tables) c.twin-behind_v.ensures.twin in
    let w = second_written c.args.records.now c.link_on-names.new.records c.link_on-names.result c.args.u c.args.v c.args.at_u c.args.at_v c.args.line c.requires.map c.requires.fits c.requires.two e.new_darts e.graph e.sound c.cycle-first.result c.cycle-second.result c.next-from.result r.0 p q c.next-from.ensures r.1 in
    cycle_stays c.args.records.now c.link_on-names.new.records c.link_on-names.result c.args.u c.args.v c.args.at_u c.args.at_v c.args.line c.requires.map c.requires.fits c.requires.two e.new_darts e.graph e.sound c.put_run.new.records c.cycle-first.result c.cycle-second.result r.0 e.faces r.2 w c.cycle-second.result c.twin-behind_v.result c.cycle-second.ensures.cycle c.twin-behind_v.ensures.has

pub returns-then-keeps_first : goal.returns-then-keeps_first
returns-then-keeps_first c =
    let e = c.link_on-names.ensures in
    let r = c.put_run.ensures.run in
    let n = c.remove_cycle.ensures in
    let p = c.cycle-first.ensures.cycle ∙ ap (cycle_in c.args.records.now.faces.tables) c.twin-behind_u.ensures.twin in
    let q = c.cycle-second.ensures.cycle ∙ ap (cycle_in c.args.records.now.faces.tables) c.twin-behind_v.ensures.twin in
    let w = second_written c.args.records.now c.link_on-names.new.records c.link_on-names.result c.args.u c.args.v c.args.at_u c.args.at_v c.args.line c.requires.map c.requires.fits c.requires.two e.new_darts e.graph e.sound c.cycle-first.result c.cycle-second.result c.next-from.result r.0 p q c.next-from.ensures r.1 in
    let f = second_goes c.args.records.now c.link_on-names.new.records c.link_on-names.result c.args.u c.args.v c.args.at_u c.args.at_v c.args.line c.requires.map c.requires.fits c.requires.two e.new_darts e.graph e.sound c.twin-behind_u.result c.twin-behind_v.result c.cycle-first.result c.cycle-second.result c.twin-behind_u.ensures.twin c.twin-behind_v.ensures.twin p q (c.keeps_first.ensures.inner c.if-keeps_first.true) in
    join_made c.args.records.now c.link_on-names.new.records c.link_on-names.result c.args.u c.args.v c.args.at_u c.args.at_v c.args.line c.requires.map c.requires.fits c.requires.two e.new_darts e.graph e.sound c.put_run.new.records c.cycle-first.result c.cycle-second.result r.0 e.faces r.2 w
    c.remove_cycle.new.self c.requires.returned f e.spare c.put_run.ensures.graph n.tables n.lists n.spare n.moved n.graph

pub next-from-requires-else-keeps_first : goal.next-from-requires-else-keeps_first
next-from-requires-else-keeps_first c = let e = c.link_on-names-else-keeps_first.ensures in second_known c.args.records.now c.link_on-names-else-keeps_first.new.records c.link_on-names-else-keeps_first.result c.args.u c.args.v c.args.at_u c.args.at_v c.args.line c.requires.map c.requires.fits c.requires.two e.new_darts e.graph e.sound

pub put_run-requires-else-keeps_first-clause-from : goal.put_run-requires-else-keeps_first-clause-from
put_run-requires-else-keeps_first-clause-from c = let e = c.link_on-names-else-keeps_first.ensures in (second_ahead c.args.records.now c.link_on-names-else-keeps_first.new.records c.link_on-names-else-keeps_first.result c.args.u c.args.v c.args.at_u c.args.at_v c.args.line c.requires.map c.requires.fits c.requires.two e.new_darts e.graph e.sound c.next-from-else-keeps_first.result c.next-from-else-keeps_first.ensures).0

pub put_run-requires-else-keeps_first-clause-to : goal.put_run-requires-else-keeps_first-clause-to
put_run-requires-else-keeps_first-clause-to c = let e = c.link_on-names-else-keeps_first.ensures in first_known c.args.records.now c.link_on-names-else-keeps_first.new.records c.link_on-names-else-keeps_first.result c.args.u c.args.v c.args.at_u c.args.at_v c.args.line c.requires.map c.requires.fits c.requires.two e.new_darts e.graph e.sound

pub put_run-requires-else-keeps_first-clause-together : goal.put_run-requires-else-keeps_first-clause-together
put_run-requires-else-keeps_first-clause-together c = let e = c.link_on-names-else-keeps_first.ensures in (second_ahead c.args.records.now c.link_on-names-else-keeps_first.new.records c.link_on-names-else-keeps_first.result c.args.u c.args.v c.args.at_u c.args.at_v c.args.line c.requires.map c.requires.fits c.requires.two e.new_darts e.graph e.sound c.next-from-else-keeps_first.result c.next-from-else-keeps_first.ensures).1

pub put_run-requires-else-keeps_first-clause-cycle : goal.put_run-requires-else-keeps_first-clause-cycle
put_run-requires-else-keeps_first-clause-cycle c = subst (λ (z : FacesView). HasCycle z.tables c.cycle-second.result) (sym c.link_on-names-else-keeps_first.ensures.faces) c.cycle-second.ensures.has

pub remove_cycle-requires-else-keeps_first-clause-off : goal.remove_cycle-requires-else-keeps_first-clause-off
remove_cycle-requires-else-keeps_first-clause-off c =
    let e = c.link_on-names-else-keeps_first.ensures in
    let r = c.put_run-else-keeps_first.ensures.run in
    let p = c.cycle-second.ensures.cycle ∙ ap (cycle_in c.args.records.now.faces.tables) c.twin-behind_v.ensures.twin in
    let q = c.cycle-first.ensures.cycle ∙ ap (cycle_in c.args.records.now.faces.tables) c.twin-behind_u.ensures.twin in
    let w = first_written c.args.records.now c.link_on-names-else-keeps_first.new.records c.link_on-names-else-keeps_first.result c.args.u c.args.v c.args.at_u c.args.at_v c.args.line c.requires.map c.requires.fits c.requires.two e.new_darts e.graph e.sound c.cycle-second.result c.cycle-first.result c.next-from-else-keeps_first.result r.0 p q c.next-from-else-keeps_first.ensures r.1 in
    none_on c.args.records.now c.link_on-names-else-keeps_first.new.records c.link_on-names-else-keeps_first.result c.args.u c.args.v c.args.at_u c.args.at_v c.args.line c.requires.map c.requires.fits c.requires.two e.new_darts e.graph e.sound c.put_run-else-keeps_first.new.records c.cycle-second.result c.cycle-first.result r.0 e.faces r.2 w (λ e. c.requires.two (sym q ∙ sym e ∙ p)) c.put_run-else-keeps_first.ensures.graph

pub remove_cycle-requires-else-keeps_first-clause-cycle : goal.remove_cycle-requires-else-keeps_first-clause-cycle
remove_cycle-requires-else-keeps_first-clause-cycle c =
    let e = c.link_on-names-else-keeps_first.ensures in
    let r = c.put_run-else-keeps_first.ensures.run in
    let p = c.cycle-second.ensures.cycle ∙ ap (cycle_in c.args.records.now.faces.tables) c.twin-behind_v.ensures.twin in
    let q = c.cycle-first.ensures.cycle ∙ ap (cycle_in c.args.records.now.faces.tables) c.twin-behind_u.ensures.twin in
    let w = first_written c.args.records.now c.link_on-names-else-keeps_first.new.records c.link_on-names-else-keeps_first.result c.args.u c.args.v c.args.at_u c.args.at_v c.args.line c.requires.map c.requires.fits c.requires.two e.new_darts e.graph e.sound c.cycle-second.result c.cycle-first.result c.next-from-else-keeps_first.result r.0 p q c.next-from-else-keeps_first.ensures r.1 in
    cycle_stays c.args.records.now c.link_on-names-else-keeps_first.new.records c.link_on-names-else-keeps_first.result c.args.u c.args.v c.args.at_u c.args.at_v c.args.line c.requires.map c.requires.fits c.requires.two e.new_darts e.graph e.sound c.put_run-else-keeps_first.new.records c.cycle-second.result c.cycle-first.result r.0 e.faces r.2 w c.cycle-first.result c.twin-behind_u.result c.cycle-first.ensures.cycle c.twin-behind_u.ensures.has

pub returns-else-keeps_first : goal.returns-else-keeps_first
returns-else-keeps_first c =
    let e = c.link_on-names-else-keeps_first.ensures in
    let r = c.put_run-else-keeps_first.ensures.run in
    let n = c.remove_cycle-else-keeps_first.ensures in
    let p = c.cycle-second.ensures.cycle ∙ ap (cycle_in c.args.records.now.faces.tables) c.twin-behind_v.ensures.twin in
    let q = c.cycle-first.ensures.cycle ∙ ap (cycle_in c.args.records.now.faces.tables) c.twin-behind_u.ensures.twin in
    let w = first_written c.args.records.now c.link_on-names-else-keeps_first.new.records c.link_on-names-else-keeps_first.result c.args.u c.args.v c.args.at_u c.args.at_v c.args.line c.requires.map c.requires.fits c.requires.two e.new_darts e.graph e.sound c.cycle-second.result c.cycle-first.result c.next-from-else-keeps_first.result r.0 p q c.next-from-else-keeps_first.ensures r.1 in
    let f = first_goes c.args.records.now c.link_on-names-else-keeps_first.new.records c.link_on-names-else-keeps_first.result c.args.u c.args.v c.args.at_u c.args.at_v c.args.line c.requires.map c.requires.fits c.requires.two e.new_darts e.graph e.sound c.twin-behind_u.result c.twin-behind_v.result c.cycle-second.result c.cycle-first.result c.twin-behind_u.ensures.twin c.twin-behind_v.ensures.twin p q (c.keeps_first.ensures.outer c.if-keeps_first.false) in
    join_made c.args.records.now c.link_on-names-else-keeps_first.new.records c.link_on-names-else-keeps_first.result c.args.u c.args.v c.args.at_u c.args.at_v c.args.line c.requires.map c.requires.fits c.requires.two e.new_darts e.graph e.sound c.put_run-else-keeps_first.new.records c.cycle-second.result c.cycle-first.result r.0 e.faces r.2 w
    c.remove_cycle-else-keeps_first.new.self c.requires.returned f e.spare c.put_run-else-keeps_first.ensures.graph n.tables n.lists n.spare n.moved n.graph
