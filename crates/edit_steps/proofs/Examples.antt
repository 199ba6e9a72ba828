-- Steps of small edits, computed. What they must be was told by the rules for each edit, by hand.
use Rattle.std.proofs.Common.{◌≡◌, ℕ, pos, negsuc, List, [], ◌∷◌, refl}
use Rattle.std.specs.Prelude.{Some}
use Rattle.integers.specs.Divisor.{gcd_within, gcd}
use Rattle.exact_plane.specs.Point.{Point}
use Rattle.plane_graphs.specs.Ascending.{place, ascending}
use Rattle.plane_graphs.specs.Line.{homogeneous_point, crossing}
use Rattle.exact_plane.specs.Segment.{Segment}
use Rattle.plane_graphs.specs.Piece.{Piece, Present, along, on}
use Rattle.plane_graphs.specs.Graph.{mark_cmp, ends, common_points, vertices, is_parted, are_neighbours, marks_on, marks, graph, det, collinear, inside, curves}
use Rattle.edit_steps.specs.Steps.{AddVertex, RemoveVertex, SplitEdge, MergeEdge, AddEdge, RemoveEdge, AddCurve, RemoveCurve, SetPin, ClearPin, apply, run, vertex_step_by, vertex_steps, tidy_step, tidy_steps, missing_points, more_step, less_step, path_steps, with_tidying, drop_steps, cut_piece, cut_steps, pin_steps, unpin_steps, split_steps, merge_steps}
use Rattle.edit_steps.specs.Edits.{Insert, Drop, Cut, Pin, Unpin, Split, Merge, ClearAll, after, steps}
use Rattle.edit_steps.specs.Layer.{layer_after, empty_layer}
use Rattle.edit_steps.specs.Refusals.{NotMergeable, merge_refusal}

unfoldable pub opened : Unit {0}
unfolding gcd_within gcd place ascending homogeneous_point crossing along on mark_cmp ends common_points vertices is_parted are_neighbours marks_on marks graph det collinear inside
    apply run vertex_step_by vertex_steps tidy_step tidy_steps missing_points more_step less_step path_steps with_tidying drop_steps cut_piece cut_steps pin_steps unpin_steps split_steps merge_steps after steps
opened = tt

-- the whole point (x, y)
abbrev at : ℕ → ℕ → Point
at x y = record { x = pos x; y = pos y; w = pos 1 }

-- the point (x, -1)
abbrev below : ℕ → Point
below x = record { x = pos x; y = negsuc 0; w = pos 1 }

-- the point (x / w, y / w)
abbrev over : ℕ → ℕ → ℕ → Point
over x y w = record { x = pos x; y = pos y; w = pos w }

abbrev segment : Point → Point → Segment
segment p q = record { lower = p; upper = q }

-- a whole segment, of the curve c
abbrev piece : (c : ℕ) (p q : Point) → Piece
piece c p q = record { curve = c; side = 1; segment = segment p q; from = p; to = q }

-- a segment across another
across_one : steps (Insert 2 (segment (at 0 1) (at 2 1) ∷ [])) (record { pieces = piece 1 (at 1 0) (at 1 2) ∷ []; pins = [] })
    ≡ AddVertex (at 0 1) ∷ SplitEdge (at 1 0) (at 1 2) (at 1 1) ∷ AddVertex (at 2 1) ∷ AddEdge (at 0 1) (at 1 1) 2 ∷ AddEdge (at 1 1) (at 2 1) 2 ∷ []
unfolding opened
across_one = refl

-- at a point that is not whole
at_fraction : steps (Insert 2 (segment (at 0 1) (at 1 0) ∷ [])) (record { pieces = piece 1 (at 0 0) (at 2 1) ∷ []; pins = [] })
    ≡ AddVertex (at 0 1) ∷ SplitEdge (at 0 0) (at 2 1) (over 2 1 3) ∷ AddVertex (at 1 0) ∷ AddEdge (at 0 1) (over 2 1 3) 2 ∷ AddEdge (over 2 1 3) (at 1 0) 2 ∷ []
unfolding opened
at_fraction = refl

-- one inside another: the second split names a half of the edge that the first one split
inside_one : steps (Insert 2 (segment (at 2 0) (at 4 0) ∷ [])) (record { pieces = piece 1 (at 0 0) (at 6 0) ∷ []; pins = [] })
    ≡ SplitEdge (at 0 0) (at 6 0) (at 2 0) ∷ SplitEdge (at 2 0) (at 6 0) (at 4 0) ∷ AddCurve (at 2 0) (at 4 0) 2 ∷ []
unfolding opened
inside_one = refl

-- one along another, and away again
along_one : steps (Insert 2 (segment (at 0 0) (at 6 0) ∷ [])) (record { pieces = piece 1 (at 2 0) (at 4 0) ∷ []; pins = [] })
    ≡ AddVertex (at 0 0) ∷ AddVertex (at 6 0) ∷ AddEdge (at 0 0) (at 2 0) 2 ∷ AddCurve (at 2 0) (at 4 0) 2 ∷ AddEdge (at 4 0) (at 6 0) 2 ∷ []
unfolding opened
along_one = refl

-- a path that folds back over itself: each edge comes once, and its joint inside the first side stays a vertex
abbrev fold : List Segment
fold = segment (at 0 0) (at 4 0) ∷ segment (at 1 0) (at 4 0) ∷ []

abbrev nothing : Present
nothing = record { pieces = []; pins = [] }

fold_once : steps (Insert 1 fold) nothing ≡ AddVertex (at 0 0) ∷ AddVertex (at 1 0) ∷ AddVertex (at 4 0) ∷ AddEdge (at 0 0) (at 1 0) 1 ∷ AddEdge (at 1 0) (at 4 0) 1 ∷ []
unfolding opened curves
fold_once = refl

-- both pieces on the edge go with a cut, and then the joint is no end
fold_cut : steps (Cut (at 1 0) (at 4 0)) (after (Insert 1 fold) nothing) ≡ RemoveEdge (at 1 0) (at 4 0) ∷ RemoveVertex (at 4 0) ∷ []
unfolding opened curves
fold_cut = refl

-- the joint is no merge, though both its edges have the one curve
fold_refused : (merge_refusal (layer_after (Insert 1 fold) (empty_layer 1)) (at 1 0) ≡ Some NotMergeable) × (curves (graph (after (Insert 1 fold) nothing)) (at 0 0) (at 1 0) ≡ curves (graph (after (Insert 1 fold) nothing)) (at 1 0) (at 4 0))
unfolding opened curves
fold_refused = (refl, refl)

-- a path that crosses itself
self_crossing : steps (Insert 1 (segment (at 0 0) (at 2 2) ∷ segment (at 2 0) (at 2 2) ∷ segment (at 0 2) (at 2 0) ∷ [])) nothing
    ≡ AddVertex (at 0 0) ∷ AddVertex (at 0 2) ∷ AddVertex (at 1 1) ∷ AddVertex (at 2 0) ∷ AddVertex (at 2 2) ∷ AddEdge (at 0 0) (at 1 1) 1 ∷ AddEdge (at 0 2) (at 1 1) 1 ∷ AddEdge (at 1 1) (at 2 0) 1 ∷ AddEdge (at 1 1) (at 2 2) 1 ∷ AddEdge (at 2 0) (at 2 2) 1 ∷ []
unfolding opened curves
self_crossing = refl

away_again : steps (Drop 1) (record { pieces = piece 1 (at 2 0) (at 4 0) ∷ piece 2 (at 0 0) (at 6 0) ∷ []; pins = [] })
    ≡ RemoveCurve (at 2 0) (at 4 0) 1 ∷ MergeEdge (at 2 0) ∷ MergeEdge (at 4 0) ∷ []
unfolding opened
away_again = refl

-- a pin stays where its curve goes
pin_stays : steps (Drop 1) (record { pieces = piece 1 (at 0 0) (at 4 0) ∷ []; pins = at 2 0 ∷ [] })
    ≡ RemoveEdge (at 0 0) (at 2 0) ∷ RemoveEdge (at 2 0) (at 4 0) ∷ RemoveVertex (at 0 0) ∷ RemoveVertex (at 4 0) ∷ []
unfolding opened
pin_stays = refl

-- a crossing goes with one of its curves, and the other's edge is whole again
crossing_goes : steps (Drop 2) (record { pieces = piece 1 (at 0 0) (at 4 0) ∷ piece 2 (below 2) (at 2 1) ∷ []; pins = [] })
    ≡ RemoveEdge (below 2) (at 2 0) ∷ RemoveEdge (at 2 0) (at 2 1) ∷ RemoveVertex (below 2) ∷ MergeEdge (at 2 0) ∷ RemoveVertex (at 2 1) ∷ []
unfolding opened
crossing_goes = refl

-- two curves along one line, with two pins
two_curves : Present
two_curves = record { pieces = piece 1 (at 0 0) (at 9 0) ∷ piece 2 (at 0 0) (at 9 0) ∷ []; pins = at 3 0 ∷ at 6 0 ∷ [] }

cut_between : steps (Cut (at 3 0) (at 6 0)) two_curves ≡ RemoveEdge (at 3 0) (at 6 0) ∷ []
unfolding opened two_curves
cut_between = refl

left_pieces : (after (Cut (at 0 0) (at 3 0)) (after (Cut (at 3 0) (at 6 0)) two_curves)).pieces
    ≡ record { curve = 1; side = 1; segment = segment (at 0 0) (at 9 0); from = at 6 0; to = at 9 0 } ∷ record { curve = 2; side = 1; segment = segment (at 0 0) (at 9 0); from = at 6 0; to = at 9 0 } ∷ []
unfolding opened two_curves
left_pieces = refl

unpin_inside : steps (Unpin (at 3 0)) two_curves ≡ ClearPin (at 3 0) ∷ MergeEdge (at 3 0) ∷ []
unfolding opened two_curves
unpin_inside = refl

-- a pin inside an edge, off all edges, and at a vertex
pin_inside : steps (Pin (at 1 0)) two_curves ≡ SplitEdge (at 0 0) (at 3 0) (at 1 0) ∷ SetPin (at 1 0) ∷ []
unfolding opened two_curves
pin_inside = refl

pin_apart : steps (Pin (at 1 1)) two_curves ≡ AddVertex (at 1 1) ∷ SetPin (at 1 1) ∷ []
unfolding opened two_curves
pin_apart = refl

pin_at_end : steps (Pin (at 9 0)) two_curves ≡ SetPin (at 9 0) ∷ []
unfolding opened two_curves
pin_at_end = refl

split_edge : steps (Split (at 0 0) (at 3 0) (at 1 0)) two_curves ≡ SplitEdge (at 0 0) (at 3 0) (at 1 0) ∷ SetPin (at 1 0) ∷ []
unfolding opened
split_edge = refl

merge_edges : steps (Merge (at 3 0)) two_curves ≡ ClearPin (at 3 0) ∷ MergeEdge (at 3 0) ∷ []
unfolding opened
merge_edges = refl

all_goes : run (steps ClearAll two_curves) (graph two_curves) ≡ record { points = []; marks = []; pins = [] }
unfolding opened
all_goes = refl

-- three steps, and what they make
steps_and_graph : run (steps (Unpin (at 3 0)) two_curves) (graph two_curves) ≡ graph (record { pieces = piece 1 (at 0 0) (at 9 0) ∷ piece 2 (at 0 0) (at 9 0) ∷ []; pins = at 6 0 ∷ [] })
unfolding opened two_curves
steps_and_graph = refl
