-- What tidying makes of a vertex: it goes, or nothing changes.
use Rattle.std.proofs.Common.{◌≡◌, Bool, true, false, cond, ◌||◌, [], ◌∷◌, sym, ap, ◌∙◌, subst, inl, inr}
use Rattle.std.specs.List.{list_any}
use Rattle.exact_plane.specs.Point.{Point}
use Rattle.plane_graphs.specs.Ascending.{Member}
use Rattle.plane_graphs.specs.Graph.{Graph, Mark}
use Rattle.plane_graphs.specs.Line.{same_point}
use Rattle.plane_graphs.proofs.Lists.{any_in, any_out, clash}
use Rattle.edit_steps.specs.EditLaws.{IsLoose}
use Rattle.edit_steps.specs.Steps.{MergeEdge as MergeEdgeAt, RemoveVertex as RemoveVertexAt, Step, tidy_step}
use Rattle.slab_laws.specs.declared.names.DartId.{DartId}
use Rattle.slab_laws.specs.declared.names.VertexId.{VertexId}
use Rattle.slab_laws.specs.Sound.{IsGraphSound}
use Rattle.slab_laws.specs.View.{View, HasVertex, IsOutOf, point_in}
use Rattle.arr_notes.specs.Curves.{Curves, AreCurvesOf}
use Rattle.arr_notes.specs.MapView.{MapView}
use Rattle.arr_notes.specs.RecordGraph.{drawn_graph}
use Rattle.curve_history.specs.Past.{Past, curves_on}
use Rattle.observer_bus.specs.Rounds.{BusRow}
use Rattle.rotation_order.specs.VertexRings.{IsBare}
use Rattle.sound_changes.specs.ChangeFits.{FitsMerge}
use Rattle.told_steps.specs.SidedRuns.{IsSidedRun}
use Rattle.told_steps.specs.StrandRuns.{IsStrandRun, strand_graph}
use Rattle.told_steps.specs.ToldRuns.{IsToldRun}
use Rattle.told_steps.proofs.SidedRuns.{none_sided, sided}
use Rattle.told_steps.specs.Tidied.{CanJoin, IsTidied}
use Rattle.told_steps.proofs.Passed.{bare_untouched, loose_fits, passed, touched}
use Rattle.told_steps.proofs.Straight.{one_first, one_second}
use Rattle.integers.proofs.Tests.{not_true}

-- ---- which step takes the vertex away
module _ (p : Point) (g : Graph) where
  abbrev touches : Mark → Bool
  touches m = same_point m.low p || same_point m.high p

  step_by : (b : Bool) → list_any touches g.marks ≡ b → tidy_step p g ≡ cond b (MergeEdgeAt p) (RemoveVertexAt p)
  unfolding tidy_step
  step_by b e = ap (λ c. cond c (MergeEdgeAt p) (RemoveVertexAt p)) e

  merge_step : (m : Mark) → Member m g.marks → touches m ≡ true → tidy_step p g ≡ MergeEdgeAt p
  merge_step m k t = step_by true (any_in touches m g.marks k t)

  remove_step : ((m : Mark) → Member m g.marks → touches m ≡ true → ⊥) → tidy_step p g ≡ RemoveVertexAt p
  remove_step none = step_by false (not_true (list_any touches g.marks) (λ t. let m = any_out touches g.marks t in none m.0 m.1 m.2))

module _ (v : View) (h : Curves) (w : VertexId) (s : IsGraphSound v) (a : AreCurvesOf v h) (has : HasVertex v w) where
  abbrev p : Point
  p = point_in v w

  abbrev g : Graph
  g = drawn_graph v h

  -- no mark ends at a vertex without darts
  untouched : IsBare v w → (m : Mark) → Member m g.marks → touches p g m ≡ true → ⊥
  untouched bare m k t = clash t (bare_untouched v h w s a has bare m k)

  -- a vertex without darts goes
  pub bare_goes : IsBare v w → IsLoose g p
  bare_goes bare = inl (bare_untouched v h w s a has bare)

  pub bare_step : IsBare v w → tidy_step p g ≡ RemoveVertexAt p
  bare_step bare = remove_step p g (untouched bare)

  -- two edges that go straight through with the same curves become one
  pub joined_go : (d n : DartId) → CanJoin v h w d n → IsLoose g p
  joined_go d n j = inr (passed v h w s a d n j.0 j.1 has)

  pub joined_step : (k : DartId) → IsOutOf v w k → tidy_step p g ≡ MergeEdgeAt p
  joined_step k o = let m = touched v h w s a k o in merge_step p g m.0 m.1 m.2

  -- so do all that go straight through
  pub joined_alike : (d n : DartId) → CanJoin v h w d n → (x y : DartId) → FitsMerge v w x y → h x ≡ h y
  joined_alike d n j x y f = ap h (sym (one_first v w s d n j.0 x y f)) ∙ j.1 ∙ ap h (one_second v w s d n j.0 x y f)

  -- else it stays
  pub not_joinable : (k : DartId) → IsOutOf v w k → ((d : DartId) (n : DartId) → ¬ CanJoin v h w d n) → IsLoose g p → ⊥
  not_joinable k o none l = let r = loose_fits v h w s a k has o l in none r.0 r.1 (r.2, r.3)

-- the step that is told is the one that takes the vertex away
pub goes_told : (v : MapView) (h : Past) (b : BusRow) (p : Point) (s : Step) (x : MapView) (k : Past) (c : BusRow) → IsLoose (strand_graph v.graph h) p → tidy_step p (drawn_graph v.graph (curves_on h)) ≡ s →
    IsToldRun v (curves_on h) b (s ∷ []) x (curves_on k) c → IsStrandRun v.graph h (s ∷ []) x.graph k → IsTidied v h b p x k c
goes_told v h b p s x k c l e t r = inl (l, subst (λ z. IsSidedRun v h b (z ∷ []) x k c) (sym e) (sided t r))

pub stays_told : (v : MapView) (h : Past) (b : BusRow) (p : Point) → (IsLoose (strand_graph v.graph h) p → ⊥) → IsTidied v h b p v h b
stays_told v h b p n = inr (n, none_sided v h b)
