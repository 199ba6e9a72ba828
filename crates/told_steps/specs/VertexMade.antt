-- A point becomes a vertex, by what it meets of the graph: by which step, what it asks, how much room it takes, and what comes of it.
use Rattle.std.specs.Prelude.{◌≡◌, ⊤, ℕ, List, [], ◌∷◌, length}
use Rattle.exact_plane.specs.Point.{Point}
use Rattle.plane_graphs.specs.Plane.{IsPlane}
use Rattle.edit_steps.specs.Steps.{Step, AddVertex, SplitEdge, apply}
use Rattle.slab_laws.specs.declared.names.DartId.{DartId}
use Rattle.slab_laws.specs.declared.names.VertexId.{VertexId}
use Rattle.slab_laws.specs.View.{View, HasVertex, point_in, source_in, target_in}
use Rattle.arr_notes.specs.Curves.{Curves}
use Rattle.arr_notes.specs.RecordGraph.{drawn_graph}
use Rattle.arr_notes.specs.ViewChanges.{with_vertex}
use Rattle.dcel_records.specs.declared.spot.Met.{Met}
use Rattle.dcel_records.specs.declared.spot.Met.TheVariants.{Vertex, Edge, Nothing}
use Rattle.told_steps.specs.StepsMade.{IsSplitAt}

-- the step by which the point becomes a vertex, where it is none: its edge goes in two, or it comes inside a face (CGAL manual, `insert_point`)
abbrev pub steps_at : View → Point → Met → List Step
steps_at v p (Vertex w) = []
steps_at v p (Edge d) = SplitEdge (point_in v (source_in v d)) (point_in v (target_in v d)) p ∷ []
steps_at v p Nothing = AddVertex p ∷ []

-- where the point comes inside a face, the graph is plane with it (this project)
abbrev pub IsPlaneWith : View → Curves → Point → Met → Type 0
IsPlaneWith v h p (Vertex w) = ⊤
IsPlaneWith v h p (Edge d) = ⊤
IsPlaneWith v h p Nothing = IsPlane (apply (AddVertex p) (drawn_graph v h))

-- how many vertices, darts, and pairs of an edge and a side of a curve come (this project)
abbrev pub vertices_at : Met → ℕ
vertices_at (Vertex w) = 0
vertices_at (Edge d) = 1
vertices_at Nothing = 1

abbrev pub darts_at : Met → ℕ
darts_at (Vertex w) = 0
darts_at (Edge d) = 2
darts_at Nothing = 0

abbrev pub pairs_at : Curves → Met → ℕ
pairs_at h (Vertex w) = 0
pairs_at h (Edge d) = length (h d)
pairs_at h Nothing = 0

-- the vertex x is the one that is met, or the edge is split there, or it has come inside a face (this project)
abbrev pub IsVertexMade : View → Curves → Point → Met → View → Curves → VertexId → Type 0
IsVertexMade v h p (Vertex u) w k x = (x ≡ u) × (w ≡ v) × ((d : DartId) → k d ≡ h d)
IsVertexMade v h p (Edge d) w k x = IsSplitAt v d p x w
IsVertexMade v h p Nothing w k x = ¬ HasVertex v x × (w ≡ with_vertex v x p) × ((d : DartId) → k d ≡ h d)
