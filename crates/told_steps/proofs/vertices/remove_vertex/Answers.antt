use Rattle.std.proofs.Common.{refl, ap}
use Rattle.arr_notes.specs.declared.change.Change.TheVariants.{RemoveVertex}
use Rattle.arr_notes.specs.declared.intent.Intent.TheVariants.{RemoveVertex as WillRemoveVertex}
use Rattle.told_steps.proofs.Steps.{vertex_gone}
use Rattle.curve_history.specs.Past.{curves_on}
use Rattle.dcel_records.specs.SoundMaps.{map_of}
use Rattle.told_steps.proofs.MapsKept.{vertex_goes}
use Rattle.told_steps.proofs.ToldOnce.{HasMade, changed_by, strands_by, told_by}
use Rattle.told_steps.proofs.vertices.remove_vertex.Given as given
use Rattle.told_steps.proofs.vertices.remove_vertex.Goals.{After-remove_vertex}
use Rattle.told_steps.proofs.vertices.remove_vertex.Goals as goal

made : (g : given.Over) (c : After-remove_vertex g) → HasMade (map_of c.args.records.now) (curves_on c.args.history.now) (RemoveVertex c.args.v) (map_of c.remove_vertex.new.self) (curves_on c.args.history.now)
made g c =
    let e = c.remove_vertex.ensures in
    record {
      view = λ i. record { graph = e.graph i; faces = e.tables i };
      curves = λ d. refl;
      fits = (c.requires.vertex, c.requires.bare, c.requires.unpinned);
      noted = tt;
      listed = tt;
      sound = vertex_gone c.args.records.now.graph c.args.v c.requires.in_step.sound.graph c.requires.bare c.remove_vertex.new.self.graph e.graph;
    }

pub tell_after-requires : goal.tell_after-requires
tell_after-requires g c = record { changed = changed_by (made g (goal.at.tell_after-requires g c).After-remove_vertex) c.tell_before.ensures.in_step }

pub returns-clause-told : goal.returns-clause-told
returns-clause-told g c = told_by (made g (goal.at.returns-clause-told g c).After-remove_vertex) c.requires.in_step.sound _ refl _ (ap WillRemoveVertex c.point-p.ensures) c.tell_before.ensures.round c.tell_after.ensures.round

pub returns-clause-map : goal.returns-clause-map
returns-clause-map g c =
    let a = (goal.at.returns-clause-map g c).After-remove_vertex in
    let e = c.remove_vertex.ensures in
    vertex_goes c.args.records.now c.remove_vertex.new.self c.requires.map (made g a).sound e.moved c.args.v c.requires.vertex c.requires.bare e.graph e.tables e.lists

pub returns-clause-strands : goal.returns-clause-strands
returns-clause-strands g c = let o = made g (goal.at.returns-clause-strands g c).After-remove_vertex in strands_by c.args.history.now o c.requires.in_step c.args.history.now o.fits (λ d. refl)
