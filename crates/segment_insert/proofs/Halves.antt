-- The two halves of an insertion: the new vertices, and then the edges of the sides.
use Rattle.std.proofs.Common.{◌≡◌, ℕ, suc, List, [], ◌∷◌, ◌++◌, not, map, sym, ap, ap₂, ◌∙◌, subst, inl, inr}
use Rattle.std.specs.List.{list_any}
use Rattle.exact_plane.specs.Point.{Point}
use Rattle.exact_plane.specs.Segment.{Segment}
use Rattle.plane_graphs.specs.Ascending.{Member}
use Rattle.plane_graphs.specs.Fit.{IsFit}
use Rattle.plane_graphs.specs.Graph.{Graph, Mark, marks, graph, graph_over, vertices}
use Rattle.plane_graphs.specs.Line.{same_point}
use Rattle.plane_graphs.specs.Piece.{Piece, Present, on, along}
use Rattle.plane_graphs.specs.Strands.{strand_pieces}
use Rattle.plane_graphs.proofs.Lines.{geometry}
use Rattle.plane_graphs.proofs.Lists.{any_out, decide, in_filter, in_left, of_filter}
use Rattle.plane_graphs.proofs.Order.{same_out}
use Rattle.plane_graphs.proofs.Vertices.{vertices_ascend, vertices_closed}
use Rattle.edit_steps.specs.Allowed.{AreSound}
use Rattle.edit_steps.specs.EditLaws.{hold_step, ArePathPoints}
use Rattle.edit_steps.specs.Edits.{Insert, after, path_pieces, sides_from, steps, whole_piece, IsAccepted}
use Rattle.edit_steps.specs.Steps.{Step, apply, run, with_pieces, path_steps, vertex_steps, missing_points, more_step}
use Rattle.edit_steps.proofs.Edits.{vertices_more}
use Rattle.edit_steps.proofs.Folds.{first_sound as sound_first, grown, missing_sum}
use Rattle.edit_steps.proofs.Laws.{are_sound, keeps_fit}
use Rattle.edit_steps.proofs.Sound.{vertex_sound}
use Rattle.edit_steps.proofs.Together.{path_points_tell}
use Rattle.edit_steps.proofs.Vertices.{vertices_change}
use Rattle.slab_laws.specs.Sound.{IsGraphSound}
use Rattle.slab_laws.specs.View.{View, point_in}
use Rattle.arr_notes.specs.Curves.{Curves, AreCurvesOf}
use Rattle.arr_notes.specs.MapView.{MapView}
use Rattle.arr_notes.specs.RecordGraph.{drawn_graph}
use Rattle.sound_changes.proofs.StepHolds.{point_held}
use Rattle.observer_bus.specs.Rounds.{BusRow}
use Rattle.told_steps.specs.RecordLayers.{IsRunOfSteps}
use Rattle.told_steps.proofs.Runs.{made_is_run}
use Rattle.told_steps.proofs.ToldTogether.{told_runs_lawful}
use Rattle.told_steps.specs.StrandRuns.{held_steps}
use Rattle.told_steps.specs.ToldRuns.{IsToldRun}
use Rattle.segment_insert.specs.Insertion.{AreAllOn}

-- ---- steps in two halves
sound_last : (ss ts : List Step) (g : Graph) → AreSound (ss ++ ts) g → AreSound ts (run ss g)
unfolding run
sound_last [] ts g a = a
sound_last (s ∷ ss) ts g a = sound_last ss ts (apply s g) a.1

-- ---- the pieces of sides
pub side_piece : (c j : ℕ) (ss : List Segment) (s : Segment) → Member s ss → (n : ℕ) × Member (whole_piece c n s) (sides_from c j ss)
side_piece c j [] s m = absurd m
side_piece c j (t ∷ ss) s (inl e) = (j, inl (ap (whole_piece c j) e))
side_piece c j (t ∷ ss) s (inr m) = let r = side_piece c (suc j) ss s m in (r.0, inr r.1)

-- points that tell the new vertices of a curve of these sides, and its marks, each side told apart or not
pub record AreTold (p : Present) (c : ℕ) (ss : List Segment) (ps : List Point) (es zs : List Mark) : Type 0 where
  pub points : ArePathPoints p (path_pieces c ss) ps
  pub edges : es ≡ marks (vertices (with_pieces p (path_pieces c ss))) (path_pieces c ss)
  pub sides : zs ≡ marks (vertices (with_pieces p (path_pieces c ss))) (strand_pieces (path_pieces c ss))

module _ (v : View) (h : Curves) (s : IsGraphSound v) (a : AreCurvesOf v h) (p : Present) (c : ℕ) (ss : List Segment) (ps : List Point) (es zs : List Mark) (stands : drawn_graph v h ≡ graph p) (old_fit : IsFit p) (accepted : IsAccepted (Insert c ss) p) (told : AreTold p c ss ps es zs) where
  abbrev js : List Piece
  js = path_pieces c ss

  abbrev q : Present
  q = with_pieces p js

  abbrev here : Graph
  here = drawn_graph v h

  fit : IsFit q
  unfolding after
  fit = keeps_fit (Insert c ss) p old_fit accepted

  drawn_points : here.points ≡ vertices p
  unfolding graph
  drawn_points = ap (λ z. z.points) stands

  -- ---- both halves, by the records' graph
  abbrev first_half : List Step
  first_half = vertex_steps (missing_points ps here.points) here

  abbrev last_half : Graph → List Step
  last_half z = map (more_step z) es

  first_is : vertex_steps (missing_points (vertices q) (vertices p)) (graph p) ≡ first_half
  first_is = ap₂ vertex_steps (sym (path_points_tell.missing p js ps fit told.points) ∙ ap (missing_points ps) (sym drawn_points)) (sym stands)

  -- the new vertices part old edges alone
  first_graph : run first_half here ≡ graph_over (vertices q) p.pieces p.pins
  unfolding graph
  first_graph =
      let more : (m : Piece) → Member m p.pieces → Member m q.pieces = λ m i. in_left m p.pieces js i in
      let vs = vertices p in
      let rs = missing_points (vertices q) vs in
      let parts = missing_sum (vertices q) vs (vertices_ascend q) (vertices_more p q more (λ r i. i)) in
      ap₂ (λ fs z. run fs z) (sym first_is) stands
      ∙ (grown p.pieces p.pins (vertex_sound p.pieces p.pins) rs (vertices q) vs parts (vertices_closed geometry p old_fit) (λ x m. (vertices_closed geometry q fit).proper x (parts.from_rs x m))).0

  pub halves : steps (Insert c ss) p ≡ first_half ++ last_half (run first_half here)
  unfolding steps path_steps
  halves =
      ap₂ (λ (fs : List Step) (ms : List Mark). fs ++ map (more_step (run fs (graph p))) ms) first_is (sym told.edges)
      ∙ ap (λ z. first_half ++ map (more_step (run first_half z)) es) (sym stands)

  -- the sides of curves told apart: the same vertices, and then each side along each of its edges
  pub sides_held : held_steps p js ≡ first_half ++ map hold_step zs
  sides_held = ap₂ (λ (fs : List Step) (ms : List Mark). fs ++ map hold_step ms) first_is (sym told.sides)

  all_sound : AreSound (first_half ++ last_half (run first_half here)) here
  all_sound = subst (AreSound (first_half ++ last_half (run first_half here))) (sym stands) (subst (λ z. AreSound z (graph p)) halves (are_sound (Insert c ss) p old_fit accepted))

  pub first_sound : AreSound first_half here
  first_sound = sound_first first_half (last_half (run first_half here)) here all_sound

  -- ---- after the first half
  module _ (w : View) (b : Curves) (made : IsRunOfSteps v h first_half w b) where
    run_here : drawn_graph w b ≡ run first_half here
    run_here = (made_is_run v h first_half w b s a made).graph

    sound_there : IsGraphSound w
    sound_there = (made_is_run v h first_half w b s a made).sound

    pub last_sound : AreSound (last_half (drawn_graph w b)) (drawn_graph w b)
    last_sound = subst (λ z. AreSound (last_half z) z) (sym run_here) (sound_last first_half (last_half (run first_half here)) here all_sound)

    -- all vertices on a side are among the points
    pub all_on : (g : Segment) → Member g ss → AreAllOn w g ps
    unfolding missing_points on along
    all_on g i u has o =
        let x = point_in w u in
        let m : Member x (vertices q) = subst (λ z. Member x z.points) (run_here ∙ first_graph) (point_held w sound_there.named b u has) in
        elim (decide (list_any (same_point x) (vertices p))) [
          | inl e ↦
              let y = any_out (same_point x) (vertices p) e in
              let k = side_piece c 1 ss g i in
              told.points.each (whole_piece c k.0 g) x k.1 (vertices_change.stay p (whole_piece c k.0 g) x (subst (λ z. Member z (vertices p)) (sym (same_out x y.0 y.2)) y.1)) o
          | inr e ↦ (of_filter (λ z. not (list_any (same_point z) (vertices p))) x ps (subst (Member x) (sym (path_points_tell.missing p js ps fit told.points)) (in_filter (λ z. not (list_any (same_point z) (vertices p))) x (vertices q) m (ap not e)))).0
        ]

    pub told_whole : (o y x : MapView) (old now new : BusRow) (z : Curves) → IsToldRun o h old first_half y b now → IsToldRun y b now (last_half (drawn_graph w b)) x z new → IsToldRun o h old (steps (Insert c ss) p) x z new
    told_whole o y x old now new z m n =
        let ts = last_half (run first_half here) in
        told_runs_lawful.same_steps o h old (first_half ++ ts) (steps (Insert c ss) p) x z new (sym halves) (told_runs_lawful.follow o h old first_half ts y b now x z new m (told_runs_lawful.same_steps y b now _ ts x z new (ap last_half run_here) n))
