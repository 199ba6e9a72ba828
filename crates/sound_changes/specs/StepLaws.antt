-- Changes of records are steps of the graph that they draw.
use Rattle.std.specs.Prelude.{◌≡◌, ◌==◌, ◌&&◌, ℕ, Bool, cond, not}
use Rattle.std.specs.List.{filter}
use Rattle.exact_plane.specs.Point.{Point}
use Rattle.plane_graphs.specs.Graph.{Graph, is_at}
use Rattle.plane_graphs.specs.Plane.{IsPlane}
use Rattle.edit_steps.specs.Steps.{apply}
use Rattle.slab_laws.specs.declared.names.DartId.{DartId}
use Rattle.slab_laws.specs.Sound.{IsGraphSound}
use Rattle.slab_laws.specs.View.{View, point_in, source_in, target_in}
use Rattle.arr_notes.specs.declared.change.Change.{Change}
use Rattle.arr_notes.specs.Step.{step}
use Rattle.arr_notes.specs.Curves.{Curves, AreCurvesOf, IsForward, step_curves}
use Rattle.arr_notes.specs.RecordGraph.{drawn_graph}
use Rattle.sound_changes.specs.StepOfChange.{step_of_change, FitsChange}

-- after the change the records draw the graph after the step, and the curves are those of their edges
pub record IsApplied (v : View) (h : Curves) (c : Change) : Type 0 where
  pub graph : drawn_graph (step v c) (step_curves h c) ≡ apply (step_of_change v c) (drawn_graph v h)
  pub curves : AreCurvesOf (step v c) (step_curves h c)

-- and so for every change that fits
abbrev pub ChangesAreSteps : Type 0
ChangesAreSteps = (v : View) (h : Curves) (c : Change) → IsGraphSound v → AreCurvesOf v h → FitsChange v h c → IsApplied v h c

-- a change whose step leaves the graph plane leaves the records sound
abbrev pub ChangesKeepViewsSound : Type 0
ChangesKeepViewsSound = (v : View) (h : Curves) (c : Change) → IsGraphSound v → AreCurvesOf v h → FitsChange v h c → IsPlane (apply (step_of_change v c) (drawn_graph v h)) → IsGraphSound (step v c)

-- the graph without the marks of some curves along one edge
abbrev pub without_marks : Point → Point → (ℕ → Bool) → Graph → Graph
without_marks p q goes g = record g { marks = filter (λ m. not (is_at p q m && goes m.curve)) g.marks }

-- where some curves go from the edge of a dart at once, as all sides of one do where sides are told apart, the records draw the graph without their marks there, even where they were all (this project)
abbrev pub CurvesGo : Type 0
CurvesGo = (v : View) (h k : Curves) (d : DartId) (goes : ℕ → Bool) → IsGraphSound v → IsForward v d → ((x : DartId) → k x ≡ cond (x.0 == d.0) (filter (λ c. not (goes c)) (h x)) (h x)) → drawn_graph v k ≡ without_marks (point_in v (source_in v d)) (point_in v (target_in v d)) goes (drawn_graph v h)
