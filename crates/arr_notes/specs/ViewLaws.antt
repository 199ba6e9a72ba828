-- When what is read by name is a sound view.
use Rattle.std.specs.Prelude.{List}
use Rattle.slab_laws.specs.declared.names.CurveId.{CurveId}
use Rattle.slab_laws.specs.declared.names.DartId.{DartId}
use Rattle.slab_laws.specs.FacesSound.{IsSound}
use Rattle.slab_laws.specs.View.{View, Faces}
use Rattle.arr_notes.specs.Curves.{Curves, AreCurvesOf}
use Rattle.arr_notes.specs.CurvedView.{AreListsOf, IsSoundView, view_by}

-- sound records with the curves of their edges are a sound view (this project)
abbrev pub ReadViewsAreSound : Type 0
ReadViewsAreSound = (v : View) (f : Faces) (h : Curves) (k : DartId → List CurveId) → IsSound v f → AreCurvesOf v h → AreListsOf v h k → IsSoundView (view_by v f k)
