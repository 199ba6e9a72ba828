-- What becomes of a vertex that may no longer be called for.
use Rattle.std.specs.Prelude.{◌≡◌, ◌⊎◌, [], ◌∷◌, Option, MatchOption}
use Rattle.exact_plane.specs.Point.{Point}
use Rattle.edit_steps.specs.Allowed.{IsPassed}
use Rattle.edit_steps.specs.EditLaws.{IsLoose}
use Rattle.edit_steps.specs.Steps.{tidy_step}
use Rattle.slab_laws.specs.declared.names.DartId.{DartId}
use Rattle.slab_laws.specs.declared.names.VertexId.{VertexId}
use Rattle.slab_laws.specs.View.{View, point_in}
use Rattle.arr_notes.specs.Curves.{Curves}
use Rattle.arr_notes.specs.MapView.{MapView}
use Rattle.arr_notes.specs.RecordGraph.{drawn_graph}
use Rattle.curve_history.specs.Past.{Past, curves_on, strands_on}
use Rattle.observer_bus.specs.Rounds.{BusRow}
use Rattle.sound_changes.specs.ChangeFits.{FitsMerge}
use Rattle.told_steps.specs.SidedRuns.{IsSidedRun}
use Rattle.told_steps.specs.StrandRuns.{strand_graph}

-- d comes into the vertex and n goes on from it along one line, with the same curves, and no other edge ends there (CGAL manual: the premise of merging two edges)
abbrev pub CanJoin : View → Curves → VertexId → DartId → DartId → Type 0
CanJoin v h w d n = FitsMerge v w d n × (h d ≡ h n)

-- a dart that comes into the vertex and one that goes on from it along one line, where no other edge ends there; none where there are no such two (CGAL manual: the premise of merging two edges)
abbrev pub AreStraight : View → VertexId → Option (DartId × DartId) → Type 0
AreStraight v w r = MatchOption r ((d n : DartId) → ¬ FitsMerge v w d n) (λ r. FitsMerge v w r.0 r.1)

-- such darts with the same sides of curves, so that their edges may become one at the vertex; none where there are no such two (CGAL manual: the premise of merging two edges)
abbrev pub AreJoinable : View → Past → VertexId → Option (DartId × DartId) → Type 0
AreJoinable v p w r = MatchOption r ((d n : DartId) → ¬ CanJoin v (strands_on p) w d n) (λ r. CanJoin v (strands_on p) w r.0 r.1)

-- in the graph that is drawn two edges go straight through the vertex with the same sides of curves, and no other edge ends there (CGAL manual: the premise of merging two edges)
abbrev pub IsMergeableAt : View → Past → VertexId → Type 0
IsMergeableAt v p w = IsPassed (strand_graph v p) (point_in v w)

-- the vertex at the point goes where it has no edge, or two along one line with the same sides of curves, by a told step; else nothing changes (CGAL manual, removing a curve: vertices that become redundant)
abbrev pub IsTidied : MapView → Past → BusRow → Point → MapView → Past → BusRow → Type 0
IsTidied m p b r w q c =
    (IsLoose (strand_graph m.graph p) r × IsSidedRun m p b (tidy_step r (drawn_graph m.graph (curves_on p)) ∷ []) w q c) ⊎ ((IsLoose (strand_graph m.graph p) r → ⊥) × IsSidedRun m p b [] w q c)

-- the vertex goes where it has no edge, or two along one line with the same sides of curves, by a told step; else nothing changes (CGAL manual, removing a curve: vertices that become redundant)
abbrev pub IsVertexTidied : MapView → Past → BusRow → VertexId → MapView → Past → BusRow → Type 0
IsVertexTidied m p b w x q c = IsTidied m p b (point_in m.graph w) x q c
