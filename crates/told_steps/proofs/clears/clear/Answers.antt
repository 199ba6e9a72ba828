use Rattle.std.proofs.Common.{refl, subst, sym}
use Rattle.slab_laws.specs.Sound.{IsGraphSound}
use Rattle.slab_laws.specs.View.{face_id}
use Rattle.arr_notes.specs.declared.change.Change.TheVariants.{Clear}
use Rattle.sound_changes.proofs.VertexAdded.{no_rows_sound}
use Rattle.curve_history.specs.Past.{curves_on}
use Rattle.dcel_records.specs.SoundMaps.{map_of}
use Rattle.told_steps.proofs.MapsKept.{all_cleared, unbounded_first}
use Rattle.told_steps.proofs.ToldOnce.{HasMade, changed_by, strands_by, told_by}
use Rattle.told_steps.proofs.clears.clear.Given as given
use Rattle.told_steps.proofs.clears.clear.Goals.{After-clear-2}
use Rattle.told_steps.proofs.clears.clear.Goals as goal

made : (g : given.Over) (c : After-clear-2 g) → HasMade (map_of c.args.records.now) (curves_on c.args.history.now) (Clear (face_id 0)) (map_of c.clear.new.self) (curves_on c.clear-2.new.self)
made g c =
    let e = c.clear.ensures in
    record {
      view = λ i. record { graph = e.graph i; faces = e.tables i };
      curves = c.clear-2.ensures.curves;
      fits = tt;
      noted = unbounded_first c.args.records.now.faces.tables c.face_laws.ensures.faces_ascend c.face_laws.ensures.unbounded;
      listed = tt;
      sound = subst IsGraphSound (sym e.graph) no_rows_sound;
    }

pub tell_after-requires : goal.tell_after-requires
tell_after-requires g c = record { changed = changed_by (made g (goal.at.tell_after-requires g c).After-clear-2) c.tell_before.ensures.in_step }

pub returns-clause-told : goal.returns-clause-told
returns-clause-told g c = told_by (made g (goal.at.returns-clause-told g c).After-clear-2) c.requires.in_step.sound _ refl _ refl c.tell_before.ensures.round c.tell_after.ensures.round

pub returns-clause-map : goal.returns-clause-map
returns-clause-map g c =
    let a = (goal.at.returns-clause-map g c).After-clear-2 in
    let e = c.clear.ensures in
    all_cleared c.args.records.now c.clear.new.self c.requires.map (made g a).sound e.moved (made g a).noted e.graph e.tables e.lists

pub returns-clause-strands : goal.returns-clause-strands
returns-clause-strands g c = let o = made g (goal.at.returns-clause-strands g c).After-clear-2 in strands_by c.args.history.now o c.requires.in_step c.clear-2.new.self tt c.clear-2.ensures.strands
