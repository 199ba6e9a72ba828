use Rattle.std.proofs.Common.{◌≡◌, [], ◌∷◌, ap, refl, subst, sym, ◌∙◌}
use Rattle.arr_notes.specs.declared.change.Change.{Change}
use Rattle.arr_notes.specs.declared.change.Change.TheVariants.{RemoveEdge}
use Rattle.arr_notes.specs.declared.intent.Intent.TheVariants.{RemoveEdge as WillRemoveEdge}
use Rattle.edit_steps.specs.Steps.{RemoveEdge as RemoveEdgeAt}
use Rattle.slab_laws.specs.View.{point_in, source_in, target_in, twin_in}
use Rattle.arr_notes.specs.MapView.{MapView, step_map}
use Rattle.curve_history.specs.Past.{curves_on}
use Rattle.dcel_records.specs.SoundMaps.{map_of}
use Rattle.edge_unlink.specs.FacedUnlinks.{IsUnlinkMade, IsUnlinkTold}
use Rattle.sound_changes.specs.StepOfChange.{step_of_change}
use Rattle.told_steps.specs.StepsMade.{IsChangeCarried}
use Rattle.told_steps.specs.StrandRuns.{IsStrandRun}
use Rattle.dcel_records.proofs.Maps.{one_map}
use Rattle.told_steps.proofs.Settled.{in_step_then, told_then}
use Rattle.told_steps.proofs.ToldOnce.{HasMade, changed_by, strands_by, told_by}
use Rattle.told_steps.proofs.edges.remove_edge.Given as given
use Rattle.told_steps.proofs.edges.remove_edge.Goals.{After-release_all, After-settle}
use Rattle.told_steps.proofs.edges.remove_edge.Goals as goal

abbrev change : (g : given.Over) (c : After-release_all g) → Change
change g c = RemoveEdge c.args.d (twin_in c.args.records.now.graph c.args.d) c.unlink-change.ensures.change.0

unlinked : (g : given.Over) (c : After-release_all g) → IsUnlinkMade c.args.records.now c.unlink-change.new.records c.args.d (twin_in c.args.records.now.graph c.args.d) c.unlink-change.ensures.change.0
unlinked g c = let e = c.unlink-change.ensures in subst (IsUnlinkTold c.args.records.now c.unlink-change.new.records) e.change.1 e.made

made : (g : given.Over) (c : After-release_all g) → HasMade (map_of c.args.records.now) (curves_on c.args.history.now) (change g c) (map_of c.unlink-change.new.records) (curves_on c.release_all.new.self)
made g c =
    let e = c.unlink-change.ensures in
    let u = unlinked g c in
    record { view = e.map ∙ ap (step_map (map_of c.args.records.now)) e.change.1; curves = c.release_all.ensures.curves; fits = (c.requires.forward, refl); noted = u.fits; listed = u.lists; sound = u.map.sound.graph }

-- the same, of what the call answered
answered : (g : given.Over) (c : After-release_all g) → HasMade (map_of c.args.records.now) (curves_on c.args.history.now) c.unlink-change.result (map_of c.unlink-change.new.records) (curves_on c.release_all.new.self)
answered g c = subst (λ (x : Change). HasMade (map_of c.args.records.now) (curves_on c.args.history.now) x (map_of c.unlink-change.new.records) (curves_on c.release_all.new.self)) (sym c.unlink-change.ensures.change.1) (made g c)

settled : (g : given.Over) (c : After-settle g) → map_of c.settle.new.records ≡ map_of c.unlink-change.new.records
settled g c = let e = c.settle.ensures in one_map c.settle.new.records c.unlink-change.new.records (λ i. (e.graph i).graph) e.tables

pub tell_after-told-requires : goal.tell_after-told-requires
tell_after-told-requires g c = record { changed = changed_by (answered g (goal.at.tell_after-told-requires g c).After-release_all) c.tell_before.ensures.in_step }

pub settle-requires-clause-carried : goal.settle-requires-clause-carried
settle-requires-clause-carried g c = subst (IsChangeCarried c.unlink-change.new.records) (sym (c.tell_after-told.ensures.told ∙ c.unlink-change.ensures.change.1)) (unlinked g (goal.at.settle-requires-clause-carried g c).After-release_all).carried

pub returns-clause-graph : goal.returns-clause-graph
returns-clause-graph g c = (λ i. (c.settle.ensures.graph i).graph) ∙ (unlinked g (goal.at.returns-clause-graph g c).After-release_all).graph

pub returns-clause-told : goal.returns-clause-told
returns-clause-told g c =
    let a = goal.at.returns-clause-told g c in
    told_then _ _ _ _ _ _ _ _ (settled g a.After-settle) (told_by (answered g a.After-release_all) c.requires.in_step.sound _ (ap (step_of_change c.args.records.now.graph) c.unlink-change.ensures.change.1) _ (λ i. WillRemoveEdge (c.ends-low.ensures.low i) (c.ends-low.ensures.high i)) c.tell_before.ensures.round c.tell_after-told.ensures.round)

pub returns-clause-in_step : goal.returns-clause-in_step
returns-clause-in_step g c = in_step_then _ _ _ _ (settled g (goal.at.returns-clause-in_step g c).After-settle) c.tell_after-told.ensures.in_step

pub returns-clause-strands : goal.returns-clause-strands
returns-clause-strands g c =
    let a = goal.at.returns-clause-strands g c in
    let v = c.args.records.now.graph in
    let p = c.args.history.now in
    let r = strands_by p (made g a.After-release_all) c.requires.in_step c.release_all.new.self (made g a.After-release_all).fits c.release_all.ensures.strands in
    subst (λ (z : MapView). IsStrandRun v p (RemoveEdgeAt (point_in v (source_in v c.args.d)) (point_in v (target_in v c.args.d)) ∷ []) z.graph c.release_all.new.self) (sym (settled g a.After-settle)) r
