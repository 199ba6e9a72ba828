-- What a change makes of the view that observers have of records.
use Rattle.std.specs.Prelude.{◌≡◌, List, Some}
use Rattle.slab_laws.specs.declared.names.CurveId.{CurveId}
use Rattle.slab_laws.specs.declared.names.DartId.{DartId}
use Rattle.slab_laws.specs.FacesSound.{IsSound}
use Rattle.slab_laws.specs.Sound.{IsGraphSound}
use Rattle.slab_laws.specs.View.{View, Faces}
use Rattle.arr_notes.specs.declared.change.Change.{Change}
use Rattle.arr_notes.specs.Curves.{Curves, AreCurvesOf, step_curves}
use Rattle.arr_notes.specs.CurvedView.{AreListsOf, FitsView, step_view, view_by}
use Rattle.arr_notes.specs.FacesTold.{faces_after}
use Rattle.arr_notes.specs.Notes.{FitsNote}
use Rattle.arr_notes.specs.Step.{step}
use Rattle.arr_notes.specs.declared.note.Note.TheVariants.{After}
use Rattle.sound_changes.specs.StepOfChange.{FitsChange}

-- the view of the changed records, whose edges have the lists l, is what the change makes of their view before, whose edges had the lists k; whatever their tables of cycles and faces (CGAL manual, `Arr_observer`)
abbrev pub ChangesMakeViews : Type 0
ChangesMakeViews =
    (v : View) (f : Faces) (h : Curves) (k l : DartId → List CurveId) (c : Change) → IsGraphSound v → AreCurvesOf v h → FitsChange v h c → IsGraphSound (step v c) → AreListsOf v h k → AreListsOf (step v c) (step_curves h c) l
    → view_by (step v c) (faces_after v f c) l ≡ step_view (view_by v f k) c

-- a change that fits the records fits the view that observers have of them (this project)
abbrev pub ChangesFitViews : Type 0
ChangesFitViews = (v : View) (h : Curves) (c : Change) → IsGraphSound v → FitsChange v h c → FitsView v c

-- so a change that makes sound records may be told, once it is made, to an observer that holds the view of the records before it (CGAL manual, `Arr_observer`)
abbrev pub ChangesMayBeTold : Type 0
ChangesMayBeTold = (v : View) (f : Faces) (h : Curves) (k : DartId → List CurveId) (c : Change) → IsGraphSound v → AreCurvesOf v h → FitsChange v h c → IsSound (step v c) (faces_after v f c) → AreListsOf v h k → FitsNote (Some (view_by v f k)) (After c)
