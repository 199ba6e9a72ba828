-- What steps make of records.
use Rattle.std.specs.Prelude.{◌≡◌, ◌≤◌, ◌⊎◌, ◌++◌, ⊤, List, [], ◌∷◌}
use Rattle.plane_graphs.specs.Ascending.{Member}
use Rattle.plane_graphs.specs.Graph.{edges}
use Rattle.edit_steps.specs.Edits.{Edit, after, steps}
use Rattle.edit_steps.specs.Layer.{layer_after, IsAcceptedBy}
use Rattle.edit_steps.specs.Steps.{Step, AddVertex, RemoveVertex, SplitEdge, MergeEdge, AddEdge, RemoveEdge, Clear, run}
use Rattle.slab_laws.specs.declared.names.DartId.{DartId}
use Rattle.slab_laws.specs.declared.names.VertexId.{VertexId}
use Rattle.slab_laws.specs.Sound.{IsGraphSound, dart_in, edge_in}
use Rattle.slab_laws.specs.View.{View, HasVertex, HasDart, point_in}
use Rattle.arr_notes.specs.Curves.{Curves, AreCurvesOf}
use Rattle.curve_history.specs.Past.{Past, curves_on}
use Rattle.arr_notes.specs.RecordGraph.{drawn_graph}
use Rattle.told_steps.specs.RecordLayers.{layer_of, IsLayer, IsRunOfSteps}
use Rattle.told_steps.specs.StrandRuns.{IsStrandRun, strand_steps}

-- after steps the records draw the graph after the steps, are sound, and have the curves of their edges
pub record IsRun (v : View) (h : Curves) (ss : List Step) (w : View) (k : Curves) : Type 0 where
  pub graph : drawn_graph w k ≡ run ss (drawn_graph v h)
  pub sound : IsGraphSound w
  pub curves : AreCurvesOf w k

abbrev pub MadeIsRun : Type 0
MadeIsRun = (v : View) (h : Curves) (ss : List Step) (w : View) (k : Curves) → IsGraphSound v → AreCurvesOf v h → IsRunOfSteps v h ss w k → IsRun v h ss w k

-- steps, and then further steps, are all of them
abbrev pub MadeInTurn : Type 0
MadeInTurn = (v : View) (h : Curves) (ss ts : List Step) (w : View) (k : Curves) (x : View) (l : Curves) → IsRunOfSteps v h ss w k → IsRunOfSteps w k ts x l → IsRunOfSteps v h (ss ++ ts) x l

-- records that stand for a layer stand, after the steps of an accepted edit, with the sides of curves told apart or not, for the layer after it, where the history says so
abbrev pub StepsMakeLayers : Type 0
StepsMakeLayers = (e : Edit) (v : View) (p : Past) (w : View) (q : Past) → IsLayer v p → IsAcceptedBy e (layer_of v p) → IsRunOfSteps v (curves_on p) (steps e (layer_of v p).present) w (curves_on q) → IsStrandRun v p (strand_steps e (layer_of v p).present) w q → q.pieces ≡ (after e (layer_of v p).present).pieces → q.names ≡ (layer_after e (layer_of v p)).names → q.next ≡ (layer_after e (layer_of v p)).next → IsLayer w q × (layer_of w q ≡ layer_after e (layer_of v p))

-- ---- names
-- vertices and edges that are there before and after keep their names: w has each vertex of v whose point is still drawn, by its name, and each dart of v whose edge is still drawn (this project)
pub record NamesStay (v w : View) (h k : Curves) : Type 0 where
  pub vertex : (u : VertexId) → HasVertex v u → Member (point_in v u) (drawn_graph w k).points → HasVertex w u × (point_in w u ≡ point_in v u)
  pub dart : (d : DartId) → HasDart v d → Member (edge_in v d) (edges (drawn_graph w k)) → HasDart w d × (dart_in w d ≡ dart_in v d)

-- the step takes no vertex and no edge away, but that it may part an edge (this project)
abbrev pub Grows : Step → Type 0
Grows (RemoveVertex p) = ⊥
Grows (MergeEdge p) = ⊥
Grows (RemoveEdge p q) = ⊥
Grows Clear = ⊥
Grows other = ⊤

abbrev pub AllGrow : List Step → Type 0
AllGrow [] = ⊤
AllGrow (s ∷ ss) = Grows s × AllGrow ss

-- the step makes no vertex and no edge, but that it may join two edges (this project)
abbrev pub Shrinks : Step → Type 0
Shrinks (AddVertex p) = ⊥
Shrinks (SplitEdge p q r) = ⊥
Shrinks (AddEdge p q c) = ⊥
Shrinks other = ⊤

abbrev pub AllShrink : List Step → Type 0
AllShrink [] = ⊤
AllShrink (s ∷ ss) = Shrinks s × AllShrink ss

-- steps that all grow, or all shrink, keep the names of what is there before and after
abbrev pub GrownNamesStay : Type 0
GrownNamesStay = (v : View) (h : Curves) (ss : List Step) (w : View) (k : Curves) → IsGraphSound v → AreCurvesOf v h → IsRunOfSteps v h ss w k → AllGrow ss → NamesStay v w h k

abbrev pub ShrunkNamesStay : Type 0
ShrunkNamesStay = (v : View) (h : Curves) (ss : List Step) (w : View) (k : Curves) → IsGraphSound v → AreCurvesOf v h → IsRunOfSteps v h ss w k → AllShrink ss → NamesStay v w h k

-- the steps of every edit all grow or all shrink
abbrev pub EditsGrowOrShrink : Type 0
EditsGrowOrShrink = (e : Edit) (p : _) → AllGrow (steps e p) ⊎ AllShrink (steps e p)

-- ---- the first layer
-- no records and a new history stand for the empty layer
abbrev pub NothingIsALayer : Type 0
NothingIsALayer = (v : View) (p : Past) → v.vertices ≡ [] → v.darts ≡ [] → ((d : DartId) → curves_on p d ≡ []) → p.names ≡ [] → p.pieces ≡ [] → 1 ≤ p.next → IsLayer v p
