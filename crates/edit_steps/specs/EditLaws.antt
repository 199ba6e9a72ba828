-- The laws of edits and their steps.
use Rattle.std.specs.Prelude.{◌≡◌, ◌⊎◌, ⊤, ℕ, ◌≤◌, ◌/◌, ◌++◌, map, List, true, false, ◌&&◌, ◌||◌}
use Rattle.std.specs.List.{list_any, filter, flat_map}
use Rattle.std.specs.Ordering.{nat_cmp}
use Rattle.exact_plane.specs.Point.{Point}
use Rattle.exact_plane.specs.PointOrder.{point_cmp}
use Rattle.plane_graphs.specs.Ascending.{Member, IsAscending, ascending}
use Rattle.plane_graphs.specs.Line.{IsProper, precedes, same_point}
use Rattle.plane_graphs.specs.Piece.{Piece, Present, on, along}
use Rattle.plane_graphs.specs.Graph.{Graph, Mark, graph, vertices, graph_over, common_points, same_curve, is_at, inside, marks, curves, mark_cmp, chain}
use Rattle.plane_graphs.specs.Fit.{IsFit}
use Rattle.plane_graphs.specs.Strands.{strand_pieces, strands}
use Rattle.edit_steps.specs.Steps.{Step, AddCurve, RemoveCurve, run, tidy_steps, vertex_steps, missing_points, with_pieces, with_piece, without_curve, with_cut}
use Rattle.edit_steps.specs.Allowed.{AreSound, IsPassed}
use Rattle.edit_steps.specs.Edits.{Edit, Insert, Drop, after, steps, IsAccepted}
use Rattle.edit_steps.specs.Layer.{Layer, layer_after, IsAcceptedBy, IsLawful, empty_layer}

-- an accepted edit keeps a present fit
abbrev pub EditsKeepFit : Type 0
EditsKeepFit = (e : Edit) (p : Present) → IsFit p → IsAccepted e p → IsFit (after e p)

-- its steps, one after the other, make of the graph of the present the graph of the new present
abbrev pub StepsMakeGraph : Type 0
StepsMakeGraph = (e : Edit) (p : Present) → IsFit p → IsAccepted e p → run (steps e p) (graph p) ≡ graph (after e p)

-- each of them fits the graph that it meets, and the graph is plane after each
abbrev pub StepsAreSound : Type 0
StepsAreSound = (e : Edit) (p : Present) → IsFit p → IsAccepted e p → AreSound (steps e p) (graph p)

-- where vertices come and go: `stay`, an insertion loses none; `come`, a new one lies on the new piece; `go`, one that goes with a curve lies on it; `cut`, a cut loses its edge's ends at most
pub record VerticesChange : Type 0 where
  pub stay : (p : Present) (k : Piece) (x : Point) → Member x (vertices p) → Member x (vertices (with_piece p k))
  pub come : (p : Present) (k : Piece) (x : Point) → along k k.from ≡ true → along k k.to ≡ true → precedes k.from k.to ≡ true → Member x (vertices (with_piece p k)) → (Member x (vertices p) → ⊥) → on k x ≡ true
  pub go : (p : Present) (c : ℕ) (x : Point) → IsFit p → Member x (vertices p) → (Member x (vertices (without_curve p c)) → ⊥) → list_any (λ k. same_curve k.curve c && on k x) p.pieces ≡ true
  pub cut : (p : Present) (a b x : Point) → IsFit p → list_any (is_at a b) (graph p).marks ≡ true → Member x (vertices p) → (Member x (vertices (with_cut p a b)) → ⊥) → (x ≡ a) ⊎ (x ≡ b)

-- in a graph of strands, x has no edge, or two along one line with the same sides of curves; in one of curves, with the same curves
abbrev pub IsLoose : Graph → Point → Type 0
IsLoose g x = ((m : Mark) → Member m g.marks → (same_point m.low x || same_point m.high x) ≡ false) ⊎ IsPassed g x

-- over any points that contain its vertices, what is no vertex shows by its edges and its pin
pub record LooseIsNoVertex : Type 0 where
  pub go : (p : Present) (vs : List Point) (x : Point) → IsFit p → IsAscending point_cmp vs → ((q : Point) → Member q vs → IsProper q) → ((q : Point) → Member q (vertices p) → Member q vs) → Member x vs → (Member x p.pins → ⊥) → IsLoose (graph_over vs (strand_pieces p.pieces) p.pins) x → Member x (vertices p) → ⊥
  pub stay : (p : Present) (vs : List Point) (x : Point) → IsFit p → IsAscending point_cmp vs → ((q : Point) → Member q vs → IsProper q) → ((q : Point) → Member q (vertices p) → Member q vs) → Member x vs → (Member x (vertices p) → ⊥) → IsLoose (graph_over vs p.pieces p.pins) x × IsLoose (graph_over vs (strand_pieces p.pieces) p.pins) x × (Member x p.pins → ⊥)

-- x is on the piece, inside an edge of another line
pub record PassesThrough (g : Graph) (k : Piece) (x : Point) : Type 0 where
  pub proper : IsProper x
  pub here : on k x ≡ true
  pub edge : Mark
  pub edge_in : Member edge g.marks
  pub within : inside x edge ≡ true
  pub apart : along k edge.low && along k edge.high ≡ false

-- x is on two pieces of a list whose lines differ
pub record IsSelfMeeting (js : List Piece) (x : Point) : Type 0 where
  pub one : Piece
  pub other : Piece
  pub one_in : Member one js
  pub other_in : Member other js
  pub common : Member x (common_points one other)

-- x is a vertex of the present with one of the pieces alone
pub record IsOfOne (p : Present) (js : List Piece) (x : Point) : Type 0 where
  pub piece : Piece
  pub piece_in : Member piece js
  pub vertex : Member x (vertices (with_piece p piece))

-- the vertices with new pieces are those with each alone, and where the new pieces meet one another
pub record VerticesTogether : Type 0 where
  pub are : (p : Present) (js : List Piece) (x : Point) → Member x (vertices (with_pieces p js)) → Member x (vertices p) ⊎ (IsOfOne p js x ⊎ IsSelfMeeting js x)
  pub all : (p : Present) (js : List Piece) (x : Point) → Member x (vertices p) ⊎ (IsOfOne p js x ⊎ IsSelfMeeting js x) → Member x (vertices (with_pieces p js))

-- points found side by side: all are new vertices; each side's meeting points with the old graph are there, and where the sides meet one another
pub record ArePathPoints (p : Present) (js : List Piece) (ps : List Point) : Type 0 where
  pub ascend : IsAscending point_cmp ps
  pub only : (x : Point) → Member x ps → Member x (vertices (with_pieces p js))
  pub each : (k : Piece) (x : Point) → Member k js → Member x (vertices (with_piece p k)) → on k x ≡ true → Member x ps
  pub own : (x : Point) → IsSelfMeeting js x → Member x ps

-- such points tell the new vertices, and the marks of the sides, in order
pub record PathPointsTell : Type 0 where
  pub missing : (p : Present) (js : List Piece) (ps : List Point) → IsFit (with_pieces p js) → ArePathPoints p js ps → missing_points ps (vertices p) ≡ missing_points (vertices (with_pieces p js)) (vertices p)
  pub marks : (p : Present) (js : List Piece) (ps : List Point) → IsFit (with_pieces p js) → ArePathPoints p js ps → marks (vertices (with_pieces p js)) js ≡ ascending mark_cmp (flat_map (λ k. chain k.curve (filter (on k) ps)) js)

-- a new piece's vertices are its ends, the old vertices on it, and the points where it passes through an edge of another line
pub record MeetingPoints : Type 0 where
  pub are : (p : Present) (k : Piece) (x : Point) → IsFit (with_piece p k) → Member x (vertices (with_piece p k)) → on k x ≡ true → (x ≡ k.from) ⊎ ((x ≡ k.to) ⊎ (Member x (vertices p) ⊎ PassesThrough (graph p) k x))
  pub all : (p : Present) (k : Piece) (x : Point) → IsFit (with_piece p k) → (x ≡ k.from) ⊎ ((x ≡ k.to) ⊎ (Member x (vertices p) ⊎ PassesThrough (graph p) k x)) → Member x (vertices (with_piece p k))

-- the edit neither brings a curve nor takes one away by its number
abbrev pub SeesNoCurve : Edit → Type 0
SeesNoCurve (Insert c ss) = ⊥
SeesNoCurve (Drop c) = ⊥
SeesNoCurve other = ⊤

-- such an edit has the same steps where the sides of curves are told apart, and they make the graph of the new present, its sides told apart (this project)
pub record StrandsFollow : Type 0 where
  pub same : (e : Edit) (p : Present) → SeesNoCurve e → IsFit p → IsAccepted e p → steps e (strands p) ≡ steps e p
  pub there : (e : Edit) (p : Present) → SeesNoCurve e → IsFit p → IsAccepted e p → run (steps e p) (graph (strands p)) ≡ graph (strands (after e p))

-- one more side runs along an edge, new or not
abbrev pub hold_step : Mark → Step
hold_step m = AddCurve m.low m.high m.curve

-- the curve that a side's number belongs to
abbrev pub curve_of : ℕ → ℕ
curve_of z = z / 16

-- the curves of an edge are those of the sides along it (this project)
abbrev pub CurvesOfStrands : Type 0
CurvesOfStrands = (p : Present) (a b : Point) → IsFit p → curves (graph p) a b ≡ ascending nat_cmp (map curve_of (curves (graph (strands p)) a b))

-- the new vertices of an insertion come by the same steps, and then each side along each edge, in order; that is the graph of the new present, its sides told apart (this project)
abbrev pub PathOfStrands : Type 0
PathOfStrands =
    (p : Present) (js : List Piece) → IsFit (with_pieces p js) →
    run (vertex_steps (missing_points (vertices (with_pieces p js)) (vertices p)) (graph p) ++ map hold_step (marks (vertices (with_pieces p js)) (strand_pieces js))) (graph (strands p)) ≡ graph (strands (with_pieces p js))

-- one side fewer runs along an edge, which may be its last
abbrev pub release_step : Mark → Step
release_step m = RemoveCurve m.low m.high m.curve

-- each side of a curve goes from each of its edges, and then the vertices go that are none any more, by the same steps; that is the graph of the new present, its sides told apart (this project)
abbrev pub DropOfStrands : Type 0
DropOfStrands =
    (p : Present) (c : ℕ) → IsFit p →
    run (map release_step (filter (λ m. same_curve (curve_of m.curve) c) (graph (strands p)).marks) ++ tidy_steps (missing_points (vertices p) (vertices (without_curve p c))) (graph_over (vertices p) (without_curve p c).pieces p.pins)) (graph (strands p))
    ≡ graph (strands (without_curve p c))

-- layers: `empty`, the layer before the first edit is lawful; `accepted`, what a lawful layer accepts, its present does; `stay`, it stays lawful
pub record LayersAreLawful : Type 0 where
  pub empty : (first : ℕ) → 1 ≤ first → IsLawful (empty_layer first)
  pub accepted : (e : Edit) (l : Layer) → IsLawful l → IsAcceptedBy e l → IsAccepted e l.present
  pub stay : (e : Edit) (l : Layer) → IsLawful l → IsAcceptedBy e l → IsLawful (layer_after e l)
