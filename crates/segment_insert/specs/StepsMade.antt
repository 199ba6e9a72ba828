-- The steps by which an insertion makes vertices and edges of records and their history: what they ask, and what they make.
use Rattle.std.specs.Prelude.{ℕ, Bool, false, List, [], ◌∷◌, map, Option, None, Some}
use Rattle.std.specs.List.{AllByRecursion}
use Rattle.exact_plane.specs.Point.{Point}
use Rattle.exact_plane.specs.Segment.{Segment}
use Rattle.plane_graphs.specs.Ascending.{Member, IsAscending}
use Rattle.plane_graphs.specs.Graph.{chain, mark}
use Rattle.plane_graphs.specs.Strands.{strand}
use Rattle.edit_steps.specs.Allowed.{IsSound, AreSound}
use Rattle.edit_steps.specs.EditLaws.{hold_step}
use Rattle.edit_steps.specs.Steps.{Step, more_step}
use Rattle.side_parts.specs.declared.part.Part.{Part}
use Rattle.side_parts.specs.SideParts.{edge_marks, part_cmp, same_ends, strand_mark, IsPartIn, IsPartOf}
use Rattle.slab_laws.specs.declared.names.DartId.{DartId}
use Rattle.slab_laws.specs.declared.names.VertexId.{VertexId}
use Rattle.slab_laws.specs.View.{View, point_in}
use Rattle.arr_notes.specs.Curves.{Curves}
use Rattle.curve_history.specs.Past.{Past, curves_on, strands_on}
use Rattle.arr_notes.specs.MapView.{MapView}
use Rattle.arr_notes.specs.RecordGraph.{drawn_graph}
use Rattle.observer_bus.specs.Rounds.{BusRow}
use Rattle.told_steps.specs.SidedRuns.{IsSidedRun}
use Rattle.told_steps.specs.StrandRuns.{IsStrandRun}
use Rattle.told_steps.specs.ToldRuns.{IsToldRun}
use Rattle.sound_changes.specs.EdgePlaces.{dart_between, IsPlaceFor}
use Rattle.zone_walk.specs.declared.plan.Meeting.{Meeting}
use Rattle.zone_walk.specs.Zone.{points_of_meetings}
use Rattle.segment_insert.specs.Coming.{steps_at, IsMadeAt}
use Rattle.segment_insert.specs.Insertion.{pairs_to_part, AreAllOn}
use Rattle.segment_insert.specs.Parts.{part_step}

-- ---- vertices
-- those meeting points that are no vertices may become some, one after the other, and the graph is plane each time (this project)
abbrev pub MayBeVertices : View → Past → List Meeting → Type 0
MayBeVertices v p ms = AreSound (steps_at v (curves_on p) (points_of_meetings ms)) (drawn_graph v (curves_on p))

-- those meeting points that were no vertices have become some, one after the other, which observers are told, and nothing else has changed (this project)
abbrev pub BecomeVertices : MapView → Past → BusRow → List Meeting → MapView → Past → BusRow → Type 0
BecomeVertices v p b ms w q c = IsSidedRun v p b (steps_at v.graph (curves_on p) (points_of_meetings ms)) w q c

-- the meeting's point is the vertex x, which came, and observers are told, if there was none; what was told of other vertices, edges and later points still holds (this project)
abbrev pub BecomesVertex : MapView → Past → BusRow → Meeting → MapView → Past → BusRow → VertexId → Type 0
BecomesVertex v p b m w q c x = IsMadeAt v p b w q c m x

-- how many new pairs of an edge and a side of a curve come of the edges that are split at the meetings (this project)
abbrev pub new_pairs : Past → List Meeting → ℕ
new_pairs p ms = pairs_to_part (strands_on p) ms

-- ---- edges
-- the place round w of a new edge to u (CGAL manual, `insert_at_vertices`)
abbrev pub IsPlaceTo : View → VertexId → VertexId → Option DartId → Type 0
IsPlaceTo v w u at = IsPlaceFor v w at (dart_between (point_in v w) (point_in v u))

-- the curve comes along the part from u to w: on the edge that runs there, or on a new one (this project)
abbrev pub step_along : View → Past → VertexId → VertexId → ℕ → Step
step_along v p u w c = part_step (drawn_graph v (curves_on p)) v u w c

-- the curve may come along the part, and the graph is plane then (this project)
abbrev pub MayBeAlong : View → Past → VertexId → VertexId → ℕ → Type 0
MayBeAlong v p u w c = IsSound (step_along v p u w c) (drawn_graph v (curves_on p))

-- the curve has come along the part, which observers are told, and nothing else has changed (this project)
abbrev pub ComesAlong : MapView → Past → BusRow → VertexId → VertexId → ℕ → MapView → Past → BusRow → Type 0
ComesAlong v p b u w c x q d = IsToldRun v (curves_on p) b (step_along v.graph p u w c ∷ []) x (curves_on q) d

-- the curve comes along each open part between two neighbouring meeting points (this project)
abbrev pub steps_along : View → Past → ℕ → List Meeting → List Step
steps_along v p c ms = map (more_step (drawn_graph v (curves_on p))) (chain c (points_of_meetings ms))

-- the curve may come along each of these parts, one after the other, and the graph is plane each time (this project)
abbrev pub MayBeAlongAll : View → Past → ℕ → List Meeting → Type 0
MayBeAlongAll v p c ms = AreSound (steps_along v p c ms) (drawn_graph v (curves_on p))

-- the curve has come along each of these parts, one after the other, which observers are told, and nothing else has changed (this project)
abbrev pub ComesAlongAll : MapView → Past → BusRow → ℕ → List Meeting → MapView → Past → BusRow → Type 0
ComesAlongAll v p b c ms w q d = IsToldRun v (curves_on p) b (steps_along v.graph p c ms) w (curves_on q) d

-- where sides of curves are told apart, this side of the curve has come along the part, and nothing else has changed (this project)
abbrev pub SideComesAlong : View → Past → VertexId → VertexId → ℕ → ℕ → View → Past → Type 0
SideComesAlong v p u w c side x q = IsStrandRun v p (hold_step (mark (point_in v u) (point_in v w) (strand c side)) ∷ []) x q

-- and so along each open part between two neighbouring meeting points, one after the other (this project)
abbrev pub SideComesAlongAll : View → Past → ℕ → ℕ → List Meeting → View → Past → Type 0
SideComesAlongAll v p c side ms w q = IsStrandRun v p (map hold_step (chain (strand c side) (points_of_meetings ms))) w q

-- ---- parts of several sides
-- each is between neighbours among the points on its side, and they go by their ends, and then by their sides
pub record ArePartsOf (ps : List Point) (ss : List Segment) (ts : List Part) : Type 0 where
  pub within : AllByRecursion (IsPartIn ps) ts
  pub sides : AllByRecursion (IsPartOf ps ss) ts
  pub order : IsAscending part_cmp ts

-- every vertex on a side is among the points (this project)
abbrev pub AreAllOnSides : View → List Segment → List Point → Type 0
AreAllOnSides v ss ps = (s : Segment) → Member s ss → AreAllOn v s ps

-- the part before one is between the same two points
abbrev pub goes_along : Option Part → Part → Bool
goes_along None t = false
goes_along (Some s) t = same_ends s t

-- the curve, or the side of a curve, runs along the edge from u to w (this project)
abbrev pub IsDrawnAlong : View → Curves → VertexId → VertexId → ℕ → Type 0
IsDrawnAlong v h u w c = Member (mark (point_in v u) (point_in v w) c) (drawn_graph v h).marks

-- the curve comes along the edge of each part, once where several parts are along one
abbrev pub steps_along_parts : View → Past → ℕ → List Meeting → List Part → List Step
steps_along_parts v p c ms ts = map (more_step (drawn_graph v (curves_on p))) (edge_marks (points_of_meetings ms) c ts)

-- the curve may come along each of these edges, one after the other, and the graph is plane each time (this project)
abbrev pub MayBeAlongParts : View → Past → ℕ → List Meeting → List Part → Type 0
MayBeAlongParts v p c ms ts = AreSound (steps_along_parts v p c ms ts) (drawn_graph v (curves_on p))

-- the curve has come along each of these edges, one after the other, which observers are told, and nothing else has changed (this project)
abbrev pub ComesAlongParts : MapView → Past → BusRow → ℕ → List Meeting → List Part → MapView → Past → BusRow → Type 0
ComesAlongParts v p b c ms ts w q d = IsToldRun v (curves_on p) b (steps_along_parts v.graph p c ms ts) w (curves_on q) d

-- where sides of curves are told apart, each part's side has come along it, one after the other, and nothing else has changed (this project)
abbrev pub SidesComeAlong : View → Past → ℕ → List Meeting → List Part → View → Past → Type 0
SidesComeAlong v p c ms ts w q = IsStrandRun v p (map hold_step (map (strand_mark (points_of_meetings ms) c) ts)) w q
