-- What the records of an arrangement mean, whole: the graph, and its cycles and faces.
use Rattle.slab_laws.specs.View.{View, Faces}
use Rattle.arr_notes.specs.FacesTold.{faces_after}
use Rattle.arr_notes.specs.Step.{step}
use Rattle.arr_notes.specs.declared.change.Change.{Change}

-- vertices and darts by name, and cycles and faces by name (de Berg and others, doubly-connected edge list)
pub record MapView : Type 0 where
  pub graph : View
  pub faces : Faces

-- what a change makes of both (CGAL manual, `Arr_observer`)
abbrev pub step_map : MapView → Change → MapView
step_map w c = record { graph = step w.graph c; faces = faces_after w.graph w.faces c }
