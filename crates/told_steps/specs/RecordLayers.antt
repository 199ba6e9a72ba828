-- Records and history that are a layer, and the steps that an edit makes of them.
use Rattle.std.specs.Prelude.{◌≡◌, List, [], ◌∷◌}
use Rattle.plane_graphs.specs.Graph.{graph}
use Rattle.plane_graphs.specs.Strands.{strands}
use Rattle.edit_steps.specs.Layer.{Layer, IsLawful}
use Rattle.edit_steps.specs.Steps.{Step}
use Rattle.slab_laws.specs.declared.names.DartId.{DartId}
use Rattle.slab_laws.specs.FacesSound.{IsSound}
use Rattle.slab_laws.specs.Sound.{IsGraphSound}
use Rattle.slab_laws.specs.View.{View}
use Rattle.arr_notes.specs.declared.change.Change.{Change}
use Rattle.arr_notes.specs.Curves.{Curves, AreCurvesOf, step_curves}
use Rattle.arr_notes.specs.MapView.{MapView, step_map}
use Rattle.arr_notes.specs.Step.{step}
use Rattle.arr_notes.specs.RecordGraph.{drawn_graph}
use Rattle.sound_changes.specs.StepOfChange.{step_of_change, FitsChange}
use Rattle.face_steps.specs.ChangeLaws.{FitsNoted}
use Rattle.face_steps.specs.MovedLists.{ListsWhatMoves}
use Rattle.curve_history.specs.Past.{Past, curves_on}
use Rattle.told_steps.specs.StrandRuns.{strand_graph}

-- the layer of records and their history: the history's pieces, names and next number, and the records' pins (CGAL manual, arrangements with history)
abbrev pub layer_of : View → Past → Layer
layer_of v p = record { present = record { pieces = p.pieces; pins = (drawn_graph v (curves_on p)).pins }; names = p.names; next = p.next }

-- the records and their history stand for a layer: they are sound, the history's edges are the records', the layer is lawful, and they draw the graph of its present, also where the sides of curves are told apart (this project)
pub record IsLayer (v : View) (p : Past) : Type 0 where
  pub sound : IsGraphSound v
  pub curves : AreCurvesOf v (curves_on p)
  pub lawful : IsLawful (layer_of v p)
  pub stands : drawn_graph v (curves_on p) ≡ graph (layer_of v p).present
  pub strands : strand_graph v p ≡ graph (strands (layer_of v p).present)

-- the change fits the records that it meets, is the step by points, and leaves the records sound (this project)
pub record IsMade (v : View) (h : Curves) (s : Step) (c : Change) : Type 0 where
  pub fits : FitsChange v h c
  pub tells : step_of_change v c ≡ s
  pub sound : IsGraphSound (step v c)

-- so it does with the cycles and faces that it meets: what it says of them fits, it lists just what moves from face to face, each name once, and it leaves the whole map sound (CGAL manual, `Arr_observer`: what is notified of boundaries and faces)
pub record IsMapMade (m : MapView) (h : Curves) (s : Step) (c : Change) : Type 0 where
  pub made : IsMade m.graph h s c
  pub fits : FitsNoted m.graph m.faces c
  pub lists : ListsWhatMoves m.graph m.faces c
  pub sound : IsSound (step_map m c).graph (step_map m c).faces

-- the records w and the curves k come of v and h by changes that make just these steps, one after the other, and the graph is plane after each (CGAL manual, `Arr_observer`)
abbrev pub IsRunOfSteps : View → Curves → List Step → View → Curves → Type 0
IsRunOfSteps v h [] w k = (w ≡ v) × ((d : DartId) → k d ≡ h d)
IsRunOfSteps v h (s ∷ ss) w k = (c : Change) × IsMade v h s c × IsRunOfSteps (step v c) (step_curves h c) ss w k
