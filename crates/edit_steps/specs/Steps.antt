-- The steps of an edit: changes of the graph by points, and which of them each edit makes, in order.
use Rattle.std.specs.Prelude.{ℕ, List, [], ◌∷◌, ◌++◌, map, cond, not, ◌&&◌, ◌||◌}
use Rattle.std.specs.List.{filter, list_any, flat_map}
use Rattle.exact_plane.specs.Point.{Point}
use Rattle.exact_plane.specs.PointOrder.{point_cmp}
use Rattle.plane_graphs.specs.Ascending.{place, ascending}
use Rattle.plane_graphs.specs.Line.{precedes, same_point}
use Rattle.plane_graphs.specs.Piece.{Piece, Present, on}
use Rattle.plane_graphs.specs.Graph.{Mark, Graph, mark, mark_cmp, same_curve, is_at, inside, marks, vertices, graph}

-- one change of a graph (CGAL manual, `Arr_observer`; the list is this project's)
pub data Step : Type 0 where
  AddVertex : Point → Step
  RemoveVertex : Point → Step
  SplitEdge : Point → Point → Point → Step
  MergeEdge : Point → Step
  AddEdge : Point → Point → ℕ → Step
  RemoveEdge : Point → Point → Step
  AddCurve : Point → Point → ℕ → Step
  RemoveCurve : Point → Point → ℕ → Step
  SetPin : Point → Step
  ClearPin : Point → Step
  Clear : Step

-- the points other than p
abbrev pub points_without : Point → List Point → List Point
points_without p ps = filter (λ q. not (same_point q p)) ps

-- what a split at r makes of a mark: its two halves, if its edge goes from p to q, else the mark
abbrev pub halves : Point → Point → Point → Mark → List Mark
halves p q r m = cond (is_at p q m) (mark m.low r m.curve ∷ mark r m.high m.curve ∷ []) (m ∷ [])

-- the mark across r that begins with the half n, where m is the other half
abbrev pub marks_across : Point → Mark → Mark → List Mark
marks_across r n m = cond (same_point m.low r && same_curve m.curve n.curve) (mark n.low m.high n.curve ∷ []) []

-- what a merge at r makes of the mark n, one of ms: the mark across r where n ends there, none where it begins there, else the mark
abbrev pub merged_marks : Point → List Mark → Mark → List Mark
merged_marks r ms n = cond (same_point n.low r) [] (cond (same_point n.high r) (flat_map (marks_across r n) ms) (n ∷ []))

-- the graph after the step
unfoldable pub apply : Step → Graph → Graph
apply (AddVertex p) g = record g { points = place point_cmp p g.points }
apply (RemoveVertex p) g = record g { points = points_without p g.points }
apply (SplitEdge p q r) g = record g { points = place point_cmp r g.points; marks = ascending mark_cmp (flat_map (halves p q r) g.marks) }
apply (MergeEdge r) g = record g { points = points_without r g.points; marks = ascending mark_cmp (flat_map (merged_marks r g.marks) g.marks) }
apply (AddEdge p q c) g = record g { marks = place mark_cmp (mark p q c) g.marks }
apply (RemoveEdge p q) g = record g { marks = filter (λ m. not (is_at p q m)) g.marks }
apply (AddCurve p q c) g = record g { marks = place mark_cmp (mark p q c) g.marks }
apply (RemoveCurve p q c) g = record g { marks = filter (λ m. not (is_at p q m && same_curve m.curve c)) g.marks }
apply (SetPin p) g = record g { pins = place point_cmp p g.pins }
apply (ClearPin p) g = record g { pins = points_without p g.pins }
apply Clear g = record { points = []; marks = []; pins = [] }

-- the graph after all of them, one after the other
unfoldable pub run : List Step → Graph → Graph
run [] g = g
run (s ∷ ss) g = run ss (apply s g)

-- ---- lists of steps
-- the step that makes r a vertex: a split where it lies inside an edge
unfoldable pub vertex_step_by : Point → List Mark → Step
vertex_step_by r [] = AddVertex r
vertex_step_by r (m ∷ ms) = cond (inside r m) (SplitEdge m.low m.high r) (vertex_step_by r ms)

-- the steps that make points vertices, each by the graph of its moment
unfoldable pub vertex_steps : List Point → Graph → List Step
vertex_steps [] g = []
vertex_steps (r ∷ rs) g = let s : Step = vertex_step_by r g.marks in s ∷ vertex_steps rs (apply s g)

-- the step that takes the vertex r away: it has two edges, or none
unfoldable pub tidy_step : Point → Graph → Step
tidy_step r g = cond (list_any (λ m. same_point m.low r || same_point m.high r) g.marks) (MergeEdge r) (RemoveVertex r)

-- the steps that take vertices away, each by the graph of its moment
unfoldable pub tidy_steps : List Point → Graph → List Step
tidy_steps [] g = []
tidy_steps (r ∷ rs) g = let s : Step = tidy_step r g in s ∷ tidy_steps rs (apply s g)

-- the points of the first list that are not in the second
unfoldable pub missing_points : List Point → List Point → List Point
missing_points ps qs = filter (λ p. not (list_any (same_point p) qs)) ps

-- one more mark, on an edge that is there or on a new one
unfoldable pub more_step : Graph → Mark → Step
more_step g m = cond (list_any (is_at m.low m.high) g.marks) (AddCurve m.low m.high m.curve) (AddEdge m.low m.high m.curve)

-- one mark fewer: the edge goes where no other curve is on it
unfoldable pub less_step : Graph → Mark → Step
less_step g m = cond (list_any (λ n. is_at m.low m.high n && not (same_curve n.curve m.curve)) g.marks) (RemoveCurve m.low m.high m.curve) (RemoveEdge m.low m.high)

-- ---- the edits
-- pieces come
abbrev pub with_pieces : Present → List Piece → Present
with_pieces p js = record p { pieces = p.pieces ++ js }

-- a piece comes
abbrev pub with_piece : Present → Piece → Present
with_piece p k = with_pieces p (k ∷ [])

-- the new vertices, ascending, and then the edges of the new pieces, each once, in order
unfoldable pub path_steps : Present → List Piece → List Step
path_steps p js =
    let vs : List Point = vertices (with_pieces p js) in
    let firsts : List Step = vertex_steps (missing_points vs (vertices p)) (graph p) in
    firsts ++ map (more_step (run firsts (graph p))) (marks vs js)

-- the pieces of a curve go
abbrev pub without_curve : Present → ℕ → Present
without_curve p c = record p { pieces = filter (λ k. not (same_curve k.curve c)) p.pieces }

-- the first steps, and then those that take away each old vertex that isn't a new one
unfoldable pub with_tidying : Present → Present → List Step → List Step
with_tidying old new firsts = firsts ++ tidy_steps (missing_points (vertices old) (vertices new)) (run firsts (graph old))

-- each edge of the curve goes, or loses the curve, in order; then each point that is no longer a vertex
unfoldable pub drop_steps : Present → ℕ → List Step
drop_steps p c = with_tidying p (without_curve p c) (map (less_step (graph p)) (filter (λ m. same_curve m.curve c) (graph p).marks))

-- what is left of a piece without the part from a to b, where it holds both
unfoldable pub cut_piece : Point → Point → Piece → List Piece
cut_piece a b k =
    cond (on k a && on k b)
    (cond (precedes k.from a) (record k { to = a } ∷ []) [] ++ cond (precedes b k.to) (record k { from = b } ∷ []) [])
    (k ∷ [])

-- the edge from a to b goes from all pieces
abbrev pub with_cut : Present → Point → Point → Present
with_cut p a b = record p { pieces = flat_map (cut_piece a b) p.pieces }

-- the edge goes; then each point that is no longer a vertex
unfoldable pub cut_steps : Present → Point → Point → List Step
cut_steps p a b = with_tidying p (with_cut p a b) (RemoveEdge a b ∷ [])

-- a point is pinned
abbrev pub with_pin : Present → Point → Present
with_pin p r = record p { pins = place point_cmp r p.pins }

-- the point becomes a vertex where it is none, and is pinned
unfoldable pub pin_steps : Present → Point → List Step
pin_steps p r = vertex_steps (missing_points (r ∷ []) (vertices p)) (graph p) ++ (SetPin r ∷ [])

-- a pin goes
abbrev pub without_pin : Present → Point → Present
without_pin p r = record p { pins = points_without r p.pins }

-- the pin goes; then the point, where it is no longer a vertex
unfoldable pub unpin_steps : Present → Point → List Step
unpin_steps p r = with_tidying p (without_pin p r) (ClearPin r ∷ [])

-- the edge from a to b gets the vertex r, which is pinned
unfoldable pub split_steps : Point → Point → Point → List Step
split_steps a b r = SplitEdge a b r ∷ SetPin r ∷ []

-- the pin r goes, and the two edges there become one
unfoldable pub merge_steps : Point → List Step
merge_steps r = ClearPin r ∷ MergeEdge r ∷ []
