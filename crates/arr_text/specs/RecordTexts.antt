-- What sound records say by name is the text of the graph that they draw.
use Rattle.std.specs.Prelude.{◌≡◌, List}
use Rattle.slab_laws.specs.declared.names.CurveId.{CurveId}
use Rattle.slab_laws.specs.declared.names.DartId.{DartId}
use Rattle.slab_laws.specs.Sound.{IsGraphSound}
use Rattle.slab_laws.specs.Text.{graph_text}
use Rattle.slab_laws.specs.View.{View}
use Rattle.arr_notes.specs.Curves.{Curves, AreCurvesOf}
use Rattle.arr_notes.specs.CurvedView.{AreListsOf}
use Rattle.arr_notes.specs.RecordGraph.{drawn_graph}
use Rattle.arr_text.specs.Reading.{text_in}

-- with the curves of their edges (this project)
abbrev pub RecordsTellTheirGraph : Type 0
RecordsTellTheirGraph = (v : View) (h : Curves) (k : DartId → List CurveId) → IsGraphSound v → AreCurvesOf v h → AreListsOf v h k → text_in v k ≡ graph_text (drawn_graph v h)
