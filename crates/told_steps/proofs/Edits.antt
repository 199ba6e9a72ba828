-- The steps of every edit all grow or all shrink.
use Rattle.std.proofs.Common.{List, [], ◌∷◌, ◌++◌, map, Bool, true, false, cond, not, ◌&&◌, ◌||◌, inl, inr}
use Rattle.std.specs.List.{list_any}
use Rattle.exact_plane.specs.Point.{Point}
use Rattle.plane_graphs.specs.Graph.{Graph, Mark, is_at, inside, same_curve}
use Rattle.plane_graphs.specs.Line.{same_point}
use Rattle.plane_graphs.specs.Piece.{Present}
use Rattle.edit_steps.specs.Edits.{Insert, Drop, Cut, Pin, Unpin, Split, Merge, ClearAll, steps}
use Rattle.edit_steps.specs.Steps.{Step, RemoveVertex, SplitEdge, MergeEdge, AddEdge, RemoveEdge, AddCurve, RemoveCurve, apply, vertex_step_by, vertex_steps, tidy_step, tidy_steps, more_step, less_step, path_steps, with_tidying, drop_steps, cut_steps, pin_steps, unpin_steps, split_steps, merge_steps}
use Rattle.told_steps.specs.LayerSteps.{Grows, AllGrow, Shrinks, AllShrink, EditsGrowOrShrink}

pub one_of : (P : Step → Type 0) (b : Bool) (s t : Step) → P s → P t → P (cond b s t)
one_of P true s t x y = x
one_of P false s t x y = y

-- ---- growing
grow_on : (ss ts : List Step) → AllGrow ss → AllGrow ts → AllGrow (ss ++ ts)
grow_on [] ts x y = y
grow_on (s ∷ ss) ts x y = (x.0, grow_on ss ts x.1 y)

vertex_grows : (r : Point) (ms : List Mark) → Grows (vertex_step_by r ms)
unfolding vertex_step_by
vertex_grows r [] = tt
vertex_grows r (m ∷ ms) = one_of Grows (inside r m) (SplitEdge m.low m.high r) (vertex_step_by r ms) tt (vertex_grows r ms)

vertices_grow : (rs : List Point) (g : Graph) → AllGrow (vertex_steps rs g)
unfolding vertex_steps
vertices_grow [] g = tt
vertices_grow (r ∷ rs) g = (vertex_grows r g.marks, vertices_grow rs (apply (vertex_step_by r g.marks) g))

marks_grow : (g : Graph) (ms : List Mark) → AllGrow (map (more_step g) ms)
unfolding more_step
marks_grow g [] = tt
marks_grow g (m ∷ ms) = (one_of Grows (list_any (is_at m.low m.high) g.marks) (AddCurve m.low m.high m.curve) (AddEdge m.low m.high m.curve) tt tt, marks_grow g ms)

-- ---- shrinking
shrink_on : (ss ts : List Step) → AllShrink ss → AllShrink ts → AllShrink (ss ++ ts)
shrink_on [] ts x y = y
shrink_on (s ∷ ss) ts x y = (x.0, shrink_on ss ts x.1 y)

tidying_shrinks : (rs : List Point) (g : Graph) → AllShrink (tidy_steps rs g)
unfolding tidy_steps tidy_step
tidying_shrinks [] g = tt
tidying_shrinks (r ∷ rs) g = (one_of Shrinks (list_any (λ m. same_point m.low r || same_point m.high r) g.marks) (MergeEdge r) (RemoveVertex r) tt tt, tidying_shrinks rs (apply (tidy_step r g) g))

marks_shrink : (g : Graph) (ms : List Mark) → AllShrink (map (less_step g) ms)
unfolding less_step
marks_shrink g [] = tt
marks_shrink g (m ∷ ms) = (one_of Shrinks (list_any (λ n. is_at m.low m.high n && not (same_curve n.curve m.curve)) g.marks) (RemoveCurve m.low m.high m.curve) (RemoveEdge m.low m.high) tt tt, marks_shrink g ms)

tidied_shrinks : (p q : Present) (ss : List Step) → AllShrink ss → AllShrink (with_tidying p q ss)
unfolding with_tidying
tidied_shrinks p q ss x = shrink_on ss _ x (tidying_shrinks _ _)

pub edits_grow_or_shrink : EditsGrowOrShrink
unfolding steps path_steps drop_steps cut_steps pin_steps unpin_steps split_steps merge_steps
edits_grow_or_shrink (Insert c s) p = inl (grow_on _ _ (vertices_grow _ _) (marks_grow _ _))
edits_grow_or_shrink (Drop c) p = inr (tidied_shrinks p _ _ (marks_shrink _ _))
edits_grow_or_shrink (Cut a b) p = inr (tidied_shrinks p _ _ (tt, tt))
edits_grow_or_shrink (Pin r) p = inl (grow_on _ _ (vertices_grow _ _) (tt, tt))
edits_grow_or_shrink (Unpin r) p = inr (tidied_shrinks p _ _ (tt, tt))
edits_grow_or_shrink (Split a b r) p = inl (tt, (tt, tt))
edits_grow_or_shrink (Merge r) p = inr (tt, (tt, tt))
edits_grow_or_shrink ClearAll p = inr (tt, tt)
