-- Records as observers see them: vertices and darts by name, cycles and faces by name, and the curves along each edge; and what a change makes of that.
use Rattle.std.specs.Prelude.{◌≡◌, ◌≢◌, ℕ, List, [], ◌∷◌, map, not, Option, Some, None, IsSome}
use Rattle.std.specs.List.{filter}
use Rattle.std.specs.Ordering.{nat_cmp}
use Rattle.plane_graphs.specs.Ascending.{place, IsAscending}
use Rattle.plane_graphs.specs.Graph.{Graph, same_curve}
use Rattle.slab_laws.specs.declared.names.CurveId.{CurveId}
use Rattle.slab_laws.specs.declared.names.DartId.{DartId}
use Rattle.slab_laws.specs.declared.names.VertexId.{VertexId}
use Rattle.slab_laws.specs.FacesSound.{IsSound}
use Rattle.slab_laws.specs.Tables.{row_at, names, NamesAscend}
use Rattle.slab_laws.specs.Text.{graph_text}
use Rattle.slab_laws.specs.View.{View, Faces, dart_id, HasVertex, HasDart, IsOutOf, target_in, twin_in, next_in}
use Rattle.arr_notes.specs.Curves.{Curves, is_forward, IsForward}
use Rattle.arr_notes.specs.FacesTold.{faces_after}
use Rattle.arr_notes.specs.NamedRows.{put, del, edit}
use Rattle.arr_notes.specs.RecordGraph.{drawn_graph}
use Rattle.arr_notes.specs.Step.{step}
use Rattle.arr_notes.specs.declared.change.Change.{Change}
use Rattle.arr_notes.specs.declared.change.Change.TheVariants.{AddVertex, RemoveVertex, SplitEdge, MergeEdge, AddEdge, RemoveEdge, AddCurve, RemoveCurve, SetPin, ClearPin, Clear}

-- vertices and darts, cycles and faces by name, and for each edge, by the name of its dart from the lower to the upper end, the numbers of its curves (CGAL manual, `Arrangement_with_history_2`)
pub record CurvedView : Type 0 where
  pub graph : View
  pub faces : Faces
  pub curves : List (ℕ × List ℕ)

abbrev pub curves_or : Option (List ℕ) → List ℕ
curves_or None = []
curves_or (Some ks) = ks

-- the curves along the edge of a forward dart; none for another name
abbrev pub curves_seen : CurvedView → Curves
curves_seen w d = curves_or (row_at w.curves d.0)

-- the rows of the edges: those of forward darts, in the order of their names
abbrev pub curve_rows : View → (DartId → List CurveId) → List (ℕ × List ℕ)
curve_rows v k = map (λ r. (r.0, map (λ c. c.0) (k (dart_id r.0)))) (filter (λ r. is_forward v (dart_id r.0)) v.darts)

-- records that are read by name, as observers see them (this project)
abbrev pub view_by : View → Faces → (DartId → List CurveId) → CurvedView
view_by v f k = record { graph = v; faces = f; curves = curve_rows v k }

-- along the edge of each forward dart run the listed curves (CGAL manual, originating curves)
abbrev pub AreListsOf : View → Curves → (DartId → List CurveId) → Type 0
AreListsOf v h k = (d : DartId) → IsForward v d → map (λ c. c.0) (k d) ≡ h d

-- the graph that a view draws, with the view's curves
abbrev pub graph_seen : CurvedView → Graph
graph_seen w = drawn_graph w.graph (curves_seen w)

-- its text (this project)
abbrev pub view_text : CurvedView → List ℕ
view_text w = graph_text (graph_seen w)

-- just the edges have rows, each some curves, ascending (this project)
pub record AreRowsOfEdges (w : CurvedView) : Type 0 where
  pub named : NamesAscend (names w.curves)
  pub row : (d : DartId) → IsForward w.graph d → IsSome (row_at w.curves d.0)
  pub edge : (d : DartId) → IsSome (row_at w.curves d.0) → IsForward w.graph d
  pub some : (d : DartId) → IsForward w.graph d → curves_seen w d ≢ []
  pub ascend : (d : DartId) → IsAscending nat_cmp (curves_seen w d)

-- the graph is plane, the view stands for it with its cycles and faces, and its edges have their curves (this project)
pub record IsSoundView (w : CurvedView) : Type 0 where
  pub map : IsSound w.graph w.faces
  pub curves : AreRowsOfEdges w

-- ---- changes
-- the rows of the edges after a change: a new edge has its one curve, both parts of an edge have its curves, and two edges in one have those that both had (CGAL manual, arrangements with history)
abbrev pub step_rows : List (ℕ × List ℕ) → Change → List (ℕ × List ℕ)
step_rows rs (SplitEdge d w p n m) = put n.0 (curves_or (row_at rs d.0)) rs
step_rows rs (MergeEdge w d n) = del n.0 rs
step_rows rs (AddEdge d m u w at_u at_w l c faces) = put d.0 (c.0 ∷ []) rs
step_rows rs (RemoveEdge d m faces) = del d.0 rs
step_rows rs (AddCurve d c) = edit d.0 (place nat_cmp c.0) rs
step_rows rs (RemoveCurve d c) = edit d.0 (filter (λ k. not (same_curve k c.0))) rs
step_rows rs (Clear face) = []
step_rows rs other = rs

-- the view after a change (CGAL manual, `Arr_observer`; the list is this project's)
abbrev pub step_view : CurvedView → Change → CurvedView
step_view w c = record { graph = step w.graph c; faces = faces_after w.graph w.faces c; curves = step_rows w.curves c }

-- the dart leaves the vertex, where one is named
abbrev pub IsPlaceOut : View → VertexId → Option DartId → Type 0
IsPlaceOut v u None = Unit {0}
IsPlaceOut v u (Some a) = IsOutOf v u a

-- two edges that meet at a vertex where no other does: d comes in, and n goes on
pub record AreNeighbours (v : View) (w : VertexId) (d n : DartId) : Type 0 where
  pub vertex : HasVertex v w
  pub first : HasDart v d
  pub second : HasDart v n
  pub arrives : target_in v d ≡ w
  pub follows : next_in v d ≡ n
  pub returns : next_in v (twin_in v n) ≡ twin_in v d

-- two new names of darts between two vertices, each after a dart out of its source or bare
pub record IsNewPair (v : View) (d m : DartId) (u w : VertexId) (at_u at_w : Option DartId) : Type 0 where
  pub first : ¬ HasDart v d
  pub second : ¬ HasDart v m
  pub differ : d ≢ m
  pub start : HasVertex v u
  pub end : HasVertex v w
  pub two_ends : u ≢ w
  pub place_at_start : IsPlaceOut v u at_u
  pub place_at_end : IsPlaceOut v w at_w

-- a dart, and names of a new vertex and of two new darts
pub record AreNewParts (v : View) (d : DartId) (w : VertexId) (n m : DartId) : Type 0 where
  pub dart : HasDart v d
  pub vertex : ¬ HasVertex v w
  pub first : ¬ HasDart v n
  pub second : ¬ HasDart v m
  pub differ : n ≢ m

-- the change names records that the view has, and new ones that it hasn't (this project)
abbrev pub FitsView : View → Change → Type 0
FitsView v (AddVertex w p face) = ¬ HasVertex v w
FitsView v (RemoveVertex w) = HasVertex v w
FitsView v (SplitEdge d w p n m) = AreNewParts v d w n m
FitsView v (MergeEdge w d n) = AreNeighbours v w d n
FitsView v (AddEdge d m u w at_u at_w l c faces) = IsNewPair v d m u w at_u at_w
FitsView v (RemoveEdge d m faces) = HasDart v d × (m ≡ twin_in v d)
FitsView v (AddCurve d c) = HasDart v d
FitsView v (RemoveCurve d c) = HasDart v d
FitsView v (SetPin w) = HasVertex v w
FitsView v (ClearPin w) = HasVertex v w
FitsView v (Clear face) = Unit {0}
