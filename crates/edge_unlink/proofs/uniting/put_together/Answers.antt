use Rattle.std.proofs.Common.{◌≡◌, refl, sym, ap, ◌∙◌, subst}
use Rattle.slab_laws.specs.FacesSound.{lead_in}
use Rattle.slab_laws.specs.View.{View, Faces, HasDart, HasCycle, twin_in}
use Rattle.arr_notes.specs.Step.{remove_edge}
use Rattle.dcel_records.specs.RecordsView.{FacesView}
use Rattle.face_steps.specs.RowsWritten.{all_on}
use Rattle.edge_unlink.proofs.UnitedMaps.{ends, written, cycle_kept}
use Rattle.edge_unlink.proofs.uniting.put_together.Goals as goal

pub put_run-requires-clause-from : goal.put_run-requires-clause-from
put_run-requires-clause-from c =
    let v : View = c.args.records.now.graph in
    let graph : c.close_up.new.records.graph ≡ remove_edge v c.args.d (twin_in v c.args.d) = c.close_up.ensures.graph ∙ ap (remove_edge v c.args.d) c.close_up.ensures.twin in
    let e = ends v c.args.records.now.faces.tables c.args.d c.args.on_gone c.args.on_kept _ _ c.requires.map.sound c.requires.dart c.requires.sides c.requires.two refl refl in
    subst (λ g. HasDart g c.next-from.result) (sym graph) (subst (HasDart (remove_edge v c.args.d (twin_in v c.args.d))) (sym c.next-from.ensures) e.0)

pub put_run-requires-clause-to : goal.put_run-requires-clause-to
put_run-requires-clause-to c =
    let v : View = c.args.records.now.graph in
    let graph : c.close_up.new.records.graph ≡ remove_edge v c.args.d (twin_in v c.args.d) = c.close_up.ensures.graph ∙ ap (remove_edge v c.args.d) c.close_up.ensures.twin in
    let e = ends v c.args.records.now.faces.tables c.args.d c.args.on_gone c.args.on_kept _ _ c.requires.map.sound c.requires.dart c.requires.sides c.requires.two refl refl in
    subst (λ g. HasDart g c.next-to.result) (sym graph) (subst (HasDart (remove_edge v c.args.d (twin_in v c.args.d))) (sym c.next-to.ensures) e.1)

pub put_run-requires-clause-cycle : goal.put_run-requires-clause-cycle
put_run-requires-clause-cycle c = subst (λ (f : FacesView). HasCycle f.tables c.cycle-kept.result) (sym c.close_up.ensures.faces) c.cycle-kept.ensures.has

pub put_run-requires-clause-together : goal.put_run-requires-clause-together
put_run-requires-clause-together c =
    let v : View = c.args.records.now.graph in
    let graph : c.close_up.new.records.graph ≡ remove_edge v c.args.d (twin_in v c.args.d) = c.close_up.ensures.graph ∙ ap (remove_edge v c.args.d) c.close_up.ensures.twin in
    let e = ends v c.args.records.now.faces.tables c.args.d c.args.on_gone c.args.on_kept _ _ c.requires.map.sound c.requires.dart c.requires.sides c.requires.two refl refl in
    (λ i. lead_in (graph i) (c.next-from.ensures i)) ∙ e.2 ∙ (λ i. lead_in (sym graph i) (sym c.next-to.ensures i))

pub set_dart-requires : goal.set_dart-requires
set_dart-requires c =
    let v : View = c.args.records.now.graph in
    let f : Faces = c.args.records.now.faces.tables in
    let closed = c.close_up.ensures in
    let run = c.put_run.ensures.run in
    let put = written v f c.args.d c.args.on_gone c.args.on_kept _ _ c.requires.map.sound c.requires.dart c.requires.sides c.requires.two refl refl
    c.close_up.new.records.graph c.put_run.new.records.faces.tables c.close_up.result.m c.next-from.result c.next-to.result c.cycle-kept.result run.0 closed.graph closed.twin c.next-from.ensures c.next-to.ensures c.cycle-kept.ensures.cycle
    (ap (λ (z : FacesView). z.tables) run.2 ∙ ap (λ (z : FacesView). all_on run.0 c.cycle-kept.result z.tables) closed.faces) run.1
    in
    subst (λ (z : Faces). HasCycle z c.cycle-kept.result) (sym put) (cycle_kept v f c.args.d c.args.on_gone c.args.on_kept _ c.cycle-kept.result c.requires.map.sound c.requires.dart c.requires.sides c.requires.two refl c.cycle-kept.ensures.cycle)

pub returns-clause-tables : goal.returns-clause-tables
returns-clause-tables c =
    let closed = c.close_up.ensures in
    let run = c.put_run.ensures.run in
    c.set_dart.ensures.tables
    ∙ written c.args.records.now.graph c.args.records.now.faces.tables c.args.d c.args.on_gone c.args.on_kept _ _ c.requires.map.sound c.requires.dart c.requires.sides c.requires.two refl refl
    c.close_up.new.records.graph c.put_run.new.records.faces.tables c.close_up.result.m c.next-from.result c.next-to.result c.cycle-kept.result run.0 closed.graph closed.twin c.next-from.ensures c.next-to.ensures c.cycle-kept.ensures.cycle
    (ap (λ (z : FacesView). z.tables) run.2 ∙ ap (λ (z : FacesView). all_on run.0 c.cycle-kept.result z.tables) closed.faces) run.1
