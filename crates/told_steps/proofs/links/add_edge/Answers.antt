use Rattle.std.proofs.Common.{◌≡◌, sym, ap, subst, ◌∙◌, refl}
use Rattle.plane_graphs.specs.Ascending.{Member}
use Rattle.plane_graphs.specs.Strands.{strand}
use Rattle.slab_laws.specs.View.{View, curve_id, point_in}
use Rattle.arr_notes.specs.FaceSteps.{step_faces}
use Rattle.arr_notes.specs.FacesTold.{linked_faces}
use Rattle.arr_notes.specs.declared.change.Change.{Change}
use Rattle.arr_notes.specs.declared.change.Change.TheVariants.{AddEdge}
use Rattle.arr_notes.specs.declared.intent.Intent.TheVariants.{AddEdge as WillAddEdge}
use Rattle.plane_graphs.proofs.Lines.{line_is_proper}
use Rattle.face_steps.specs.LinkLaws.{FitsLinked}
use Rattle.face_steps.specs.MovedLists.{LinkListsMoved}
use Rattle.curve_history.specs.Past.{curves_on, strands_on}
use Rattle.dcel_records.specs.RecordsView.{tables_of}
use Rattle.dcel_records.specs.SoundMaps.{map_of}
use Rattle.told_steps.specs.StepsMade.{IsChangeCarried}
use Rattle.dcel_records.proofs.Maps.{one_map}
use Rattle.told_steps.proofs.Linked.{fits_added, one_curve}
use Rattle.told_steps.proofs.Settled.{in_step_then, told_then}
use Rattle.told_steps.proofs.StrandRuns.{as_held, none_yet, strand_step}
use Rattle.told_steps.proofs.ToldOnce.{HasMade, changed_by, told_by}
use Rattle.told_steps.proofs.links.add_edge.Given as given
use Rattle.told_steps.proofs.links.add_edge.Goals.{After-hold, After-settle}
use Rattle.told_steps.proofs.links.add_edge.Goals as goal

pub hold-requires-clause-new : goal.hold-requires-clause-new
hold-requires-clause-new g c m = subst (Member (strand c.args.curve.0 c.args.side)) (none_yet c.args.records.now.graph c.args.history.now c.requires.in_step.curves c.link_with_faces-faces.result.names.d c.link_with_faces-faces.ensures.new_darts.first) m

abbrev change : (g : given.Over) (c : After-hold g) → Change
change g c =
    let r = c.link_with_faces-faces.result in
    AddEdge r.names.d r.names.m c.args.u c.args.w c.args.at_u c.args.at_w c.args.line c.args.curve r.faces

made : (g : given.Over) (c : After-hold g) → HasMade (map_of c.args.records.now) (curves_on c.args.history.now) (change g c) (map_of c.link_with_faces-faces.new.records) (curves_on c.hold.new.self)
made g c =
    let v = c.args.records.now.graph in
    let f = tables_of c.args.records.now in
    let h = curves_on c.args.history.now in
    let r = c.link_with_faces-faces.result in
    let d = r.names.d in
    let e = c.link_with_faces-faces.ensures in
    let told = linked_faces d r.names.m c.args.u c.args.w c.args.at_u r.faces in
    record {
      view = λ i. record { graph = e.graph i; faces = (e.tables ∙ ap (λ z. step_faces z f told) e.graph) i };
      curves = λ y. c.hold.ensures.curves y ∙ one_curve h d c.args.curve.0 (c.requires.in_step.curves.without_dart d e.new_darts.first) y;
      fits = (fits_added v d r.names.m c.args.u c.args.w c.args.at_u c.args.at_w c.args.line c.requires.fits e.new_darts (line_is_proper c.args.line c.laws.ensures), c.requires.forward);
      noted = subst (λ (z : View). FitsLinked v z f d r.names.m c.args.u c.args.at_u c.args.at_w r.faces) e.graph e.fits;
      listed = subst (λ (z : View). LinkListsMoved v z f r.faces) e.graph e.lists;
      sound = e.map.sound.graph;
    }

settled : (g : given.Over) (c : After-settle g) → map_of c.settle.new.records ≡ map_of c.link_with_faces-faces.new.records
settled g c = let e = c.settle.ensures in one_map c.settle.new.records c.link_with_faces-faces.new.records (λ i. (e.graph i).graph) e.tables

pub tell_after-told-requires : goal.tell_after-told-requires
tell_after-told-requires g c = record { changed = changed_by (made g (goal.at.tell_after-told-requires g c).After-hold) c.tell_before.ensures.in_step }

pub settle-requires-clause-carried : goal.settle-requires-clause-carried
settle-requires-clause-carried g c = subst (IsChangeCarried c.link_with_faces-faces.new.records) (sym c.tell_after-told.ensures.told) c.link_with_faces-faces.ensures.carried

pub returns-clause-told : goal.returns-clause-told
returns-clause-told g c =
    let a = goal.at.returns-clause-told g c in
    told_then _ _ _ _ _ _ _ _ (settled g a.After-settle) (told_by (made g a.After-hold) c.requires.in_step.sound _ refl _ (λ i. WillAddEdge (c.point-low.ensures i) (c.point-high.ensures i)) c.tell_before.ensures.round c.tell_after-told.ensures.round)

pub returns-clause-in_step : goal.returns-clause-in_step
returns-clause-in_step g c = in_step_then _ _ _ _ (settled g (goal.at.returns-clause-in_step g c).After-settle) c.tell_after-told.ensures.in_step

pub returns-clause-strands : goal.returns-clause-strands
returns-clause-strands g c =
    let a = goal.at.returns-clause-strands g c in
    let v = c.args.records.now.graph in
    let p = c.args.history.now in
    let q = c.hold.new.self in
    let x = c.settle.new.records.graph in
    let z = strand c.args.curve.0 c.args.side in
    let r = c.link_with_faces-faces.result in
    let d = r.names.d in
    let e = c.link_with_faces-faces.ensures in
    as_held v p (point_in v c.args.u) (point_in v c.args.w) z x q (strand_step v p (AddEdge d r.names.m c.args.u c.args.w c.args.at_u c.args.at_w c.args.line (curve_id z) r.faces) x q c.requires.in_step.sound.graph c.requires.in_step.curves (made g a.After-hold).fits ((λ i. (c.settle.ensures.graph i).graph) ∙ e.graph) (λ y. c.hold.ensures.strands y ∙ one_curve (strands_on p) d z (none_yet v p c.requires.in_step.curves d e.new_darts.first) y))
