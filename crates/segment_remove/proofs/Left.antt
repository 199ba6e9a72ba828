-- After the first steps of an edit that makes less, the records draw what is left, over the old vertices; its last steps tidy.
use Rattle.std.proofs.Common.{◌≡◌, ◌++◌, List, sym, ap, ap₂, ◌∙◌, subst}
use Rattle.exact_plane.specs.Point.{Point}
use Rattle.plane_graphs.specs.Ascending.{Member}
use Rattle.plane_graphs.specs.Fit.{IsFit}
use Rattle.plane_graphs.specs.Graph.{graph, graph_over, vertices}
use Rattle.plane_graphs.specs.Piece.{Present}
use Rattle.plane_graphs.specs.Strands.{strand_pieces, strands}
use Rattle.edit_steps.specs.Steps.{Step, missing_points, run, tidy_steps, with_tidying}
use Rattle.arr_notes.specs.MapView.{MapView}
use Rattle.curve_history.specs.Past.{Past, curves_on}
use Rattle.arr_notes.specs.RecordGraph.{drawn_graph}
use Rattle.observer_bus.specs.Rounds.{BusRow}
use Rattle.told_steps.specs.RecordLayers.{IsLayer, layer_of}
use Rattle.told_steps.specs.LayerSteps.{IsRun}
use Rattle.told_steps.specs.SidedRuns.{IsSidedRun}
use Rattle.told_steps.specs.StrandRuns.{IsStrandRun, strand_graph}
use Rattle.told_steps.proofs.Runs.{made_is_run}
use Rattle.told_steps.proofs.StrandRuns.{strands_then}
use Rattle.told_steps.specs.Left.{AreLeft, tidying}
use Rattle.told_steps.specs.ToldRuns.{IsToldRun}
use Rattle.told_steps.proofs.ToldTogether.{told_runs_lawful}

module _ (v : MapView) (p : Past) (l : IsLayer v.graph p) (new : Present) (firsts : List Step) (is : run firsts (graph (layer_of v.graph p).present) ≡ graph_over (vertices (layer_of v.graph p).present) new.pieces new.pins)
    (sides : List Step) (apart : run sides (graph (strands (layer_of v.graph p).present)) ≡ graph_over (vertices (layer_of v.graph p).present) (strand_pieces new.pieces) new.pins)
    (b : BusRow) (x : MapView) (k : Past) (c : BusRow) (told : IsToldRun v (curves_on p) b firsts x (curves_on k) c) (made : IsStrandRun v.graph p sides x.graph k) where
  abbrev o : Present
  o = (layer_of v.graph p).present

  ran : IsRun v.graph (curves_on p) firsts x.graph (curves_on k)
  ran = made_is_run v.graph (curves_on p) firsts x.graph (curves_on k) l.sound l.curves (told_runs_lawful.steps v (curves_on p) b firsts x (curves_on k) c told)

  left_drawn : drawn_graph x.graph (curves_on k) ≡ graph_over (vertices o) new.pieces new.pins
  left_drawn = ran.graph ∙ ap (run firsts) l.stands ∙ is

  left_apart : strand_graph x.graph k ≡ graph_over (vertices o) (strand_pieces new.pieces) new.pins
  left_apart = made ∙ ap (run sides) l.strands ∙ apart

  points : (drawn_graph x.graph (curves_on k)).points ≡ vertices o
  points = ap (λ g. g.points) left_drawn

  pub are_left : (xs : List Point) → IsFit new → ((z : Point) → Member z (vertices new) → Member z (vertices o)) → ((z : Point) → Member z (vertices o) → (Member z (vertices new) → ⊥) → Member z xs) → AreLeft x.graph k new xs
  are_left xs fit old gone = record {
    fit = fit;
    draws = left_drawn ∙ ap (λ ps. graph_over ps new.pieces new.pins) (sym points);
    strands = left_apart ∙ ap (λ ps. graph_over ps (strand_pieces new.pieces) new.pins) (sym points);
    have = λ z m. subst (Member z) (sym points) (old z m);
    others = λ z m none. gone z (subst (Member z) points m) none;
  }

  -- ---- the tidying goes on from there
  abbrev rest : List Step
  rest = tidy_steps (missing_points (vertices o) (vertices new)) (graph_over (vertices o) new.pieces new.pins)

  rest_is : tidying (drawn_graph x.graph (curves_on k)) new ≡ rest
  rest_is = ap₂ (λ ps g. tidy_steps (missing_points ps (vertices new)) g) points left_drawn

  pub whole : firsts ++ rest ≡ with_tidying o new firsts
  unfolding with_tidying
  whole = ap (λ g. firsts ++ tidy_steps (missing_points (vertices o) (vertices new)) g) (sym is)

  pub tidied_told : (y : MapView) (j : Past) (d : BusRow) → IsSidedRun x k c (tidying (drawn_graph x.graph (curves_on k)) new) y j d → IsToldRun v (curves_on p) b (with_tidying o new firsts) y (curves_on j) d
  tidied_told y j d m =
      told_runs_lawful.same_steps v (curves_on p) b (firsts ++ rest) (with_tidying o new firsts) y (curves_on j) d whole
      (told_runs_lawful.follow v (curves_on p) b firsts rest x (curves_on k) c y (curves_on j) d told
      (told_runs_lawful.same_steps x (curves_on k) c (tidying (drawn_graph x.graph (curves_on k)) new) rest y (curves_on j) d rest_is m.told))

  pub tidied_apart : (y : MapView) (j : Past) (d : BusRow) → IsSidedRun x k c (tidying (drawn_graph x.graph (curves_on k)) new) y j d → IsStrandRun v.graph p (sides ++ rest) y.graph j
  tidied_apart y j d m = strands_then v.graph p sides rest x.graph k y.graph j made (subst (λ ss. IsStrandRun x.graph k ss y.graph j) rest_is m.strands)
