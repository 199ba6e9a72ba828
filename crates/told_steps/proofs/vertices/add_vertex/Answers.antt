use Rattle.std.proofs.Common.{refl}
use Rattle.arr_notes.specs.declared.change.Change.TheVariants.{AddVertex}
use Rattle.dcel_records.specs.SoundMaps.{map_of}
use Rattle.plane_graphs.proofs.Lines.{point_is_proper}
use Rattle.sound_changes.specs.ChangeFits.{IsNewVertex}
use Rattle.told_steps.proofs.MapsKept.{face_is_there, vertex_comes}
use Rattle.told_steps.proofs.Steps.{new_vertex, vertex_added, vertex_there}
use Rattle.curve_history.specs.Past.{curves_on}
use Rattle.told_steps.proofs.ToldOnce.{HasMade, changed_by, strands_by, told_by}
use Rattle.told_steps.proofs.vertices.add_vertex.Given as given
use Rattle.told_steps.proofs.vertices.add_vertex.Goals.{After-add_vertex-v}
use Rattle.told_steps.proofs.vertices.add_vertex.Goals as goal

pub add_vertex-v-requires : goal.add_vertex-v-requires
add_vertex-v-requires g c = record { spare = c.requires.room; face = face_is_there c.args.records.now c.args.face c.args.p c.requires.map c.requires.face }

fresh : (g : given.Over) (c : After-add_vertex-v g) → IsNewVertex c.args.records.now.graph c.add_vertex-v.result c.args.p
fresh g c = new_vertex c.args.records.now.graph c.add_vertex-v.result c.args.p c.add_vertex-v.ensures.name (point_is_proper c.args.p c.laws.ensures) c.requires.free

made : (g : given.Over) (c : After-add_vertex-v g) → HasMade (map_of c.args.records.now) (curves_on c.args.history.now) (AddVertex c.add_vertex-v.result c.args.p c.args.face) (map_of c.add_vertex-v.new.self) (curves_on c.args.history.now)
made g c = record {
  view = λ i. record { graph = c.add_vertex-v.ensures.graph i; faces = c.add_vertex-v.ensures.tables i };
  curves = λ d. refl;
  fits = fresh g c;
  noted = c.requires.face;
  listed = tt;
  sound = vertex_added c.args.records.now.graph (curves_on c.args.history.now) c.add_vertex-v.result c.args.p c.requires.in_step.sound.graph c.requires.in_step.curves (fresh g c) c.requires.plane c.add_vertex-v.new.self.graph c.add_vertex-v.ensures.graph;
}

pub tell_after-requires : goal.tell_after-requires
tell_after-requires g c = record { changed = changed_by (made g (goal.at.tell_after-requires g c).After-add_vertex-v) c.tell_before.ensures.in_step }

pub returns-clause-vertex : goal.returns-clause-vertex
returns-clause-vertex g c = vertex_there c.args.records.now.graph c.add_vertex-v.result c.args.p c.add_vertex-v.new.self.graph c.add_vertex-v.ensures.graph

pub returns-clause-told : goal.returns-clause-told
returns-clause-told g c = told_by (made g (goal.at.returns-clause-told g c).After-add_vertex-v) c.requires.in_step.sound _ refl _ refl c.tell_before.ensures.round c.tell_after.ensures.round

pub returns-clause-map : goal.returns-clause-map
returns-clause-map g c =
    let a = (goal.at.returns-clause-map g c).After-add_vertex-v in
    let e = c.add_vertex-v.ensures in
    vertex_comes c.args.records.now c.add_vertex-v.new.self c.requires.map (made g a).sound e.moved c.add_vertex-v.result c.args.p c.args.face (fresh g a) c.requires.face e.graph e.tables e.lists

pub returns-clause-strands : goal.returns-clause-strands
returns-clause-strands g c = let o = made g (goal.at.returns-clause-strands g c).After-add_vertex-v in strands_by c.args.history.now o c.requires.in_step c.args.history.now o.fits (λ d. refl)
