-- Marks that come one after the other, each along an edge that is there or as a new one, and what is still to come.
use Rattle.std.proofs.Common.{◌≡◌, ℕ, List, [], ◌∷◌, map, refl, sym, ap, ◌∙◌, subst, inl}
use Rattle.plane_graphs.specs.Ascending.{Member}
use Rattle.plane_graphs.specs.Graph.{Graph, Mark, mark, mark_cmp}
use Rattle.plane_graphs.proofs.Lists.{in_place}
use Rattle.plane_graphs.proofs.Order.{mark_cmp_total, mark_cmp_exact}
use Rattle.edit_steps.specs.Allowed.{IsSound, AreSound}
use Rattle.edit_steps.specs.EditLaws.{hold_step}
use Rattle.edit_steps.specs.Steps.{Step, apply, more_step, run}
use Rattle.edit_steps.proofs.Changes.{more_is}
use Rattle.slab_laws.specs.declared.names.VertexId.{VertexId}
use Rattle.slab_laws.specs.View.{View, point_in}
use Rattle.arr_notes.specs.Curves.{Curves}
use Rattle.arr_notes.specs.MapView.{MapView}
use Rattle.arr_notes.specs.RecordGraph.{drawn_graph}
use Rattle.curve_history.specs.Past.{Past}
use Rattle.observer_bus.specs.Rounds.{BusRow}
use Rattle.told_steps.proofs.Runs.{made_is_run}
use Rattle.told_steps.proofs.Begun.{none_told}
use Rattle.told_steps.proofs.ToldTogether.{told_runs_lawful}
use Rattle.told_steps.specs.StrandRuns.{IsStrandRun, strand_graph}
use Rattle.told_steps.specs.ToldRuns.{AreInStep, IsToldRun}
use Rattle.segment_insert.specs.Parts.{part_step}
use Rattle.segment_insert.proofs.Makes.{one_step, sound_here}

-- the steps of marks, by the graph before the first of them
abbrev pub steps_of : MapView → Curves → List Mark → List Step
steps_of v h ms = map (more_step (drawn_graph v.graph h)) ms

-- of all marks these are still to come: they may, and once they are told all are
pub record IsGoing (v : MapView) (h : Curves) (old : BusRow) (all rest : List Mark) (g : MapView) (b : Curves) (now : BusRow) : Type 0 where
  pub in_step : AreInStep g b now
  pub vertices : g.graph.vertices ≡ v.graph.vertices
  pub sound : AreSound (steps_of v h rest) (drawn_graph g.graph b)
  pub told : (x : MapView) (z : Curves) (new : BusRow) → IsToldRun g b now (steps_of v h rest) x z new → IsToldRun v h old (steps_of v h all) x z new

-- at first all are
pub begins : (v : MapView) (h : Curves) {b : BusRow} (all : List Mark) → AreInStep v h b → AreSound (steps_of v h all) (drawn_graph v.graph h) → IsGoing v h b all all v h b
begins v h all t s = record { in_step = t; vertices = refl; sound = s; told = λ x z new y. y }

module _ (v : MapView) (h : Curves) {old : BusRow} (all rest : List Mark) (g : MapView) (b : Curves) {now : BusRow} (i : IsGoing v h old all rest g b now) where
  pub ends : rest ≡ [] → IsToldRun v h old (steps_of v h all) g b now
  ends e = i.told g b now (subst (λ ms. IsToldRun g b now (steps_of v h ms) g b now) (sym e) (none_told g b now))

  module _ (u w : VertexId) (c : ℕ) (ms : List Mark) (next : rest ≡ mark (point_in v.graph u) (point_in v.graph w) c ∷ ms) where
    abbrev first : Graph
    first = drawn_graph v.graph h

    abbrev here : Graph
    here = drawn_graph g.graph b

    abbrev m : Mark
    m = mark (point_in v.graph u) (point_in v.graph w) c

    both : AreSound (more_step first m ∷ steps_of v h ms) here
    both = subst (λ z. AreSound (steps_of v h z) here) next i.sound

    -- the vertices are those of the first view
    same_mark : mark (point_in g.graph u) (point_in g.graph w) c ≡ m
    same_mark = ap (λ (vs : _). mark (point_in (record { vertices = vs; darts = g.graph.darts }) u) (point_in (record { vertices = vs; darts = g.graph.darts }) w) c) i.vertices

    pub part_sound : IsSound (part_step here g.graph u w c) here
    part_sound = subst (λ z. IsSound (more_step here z) here) (sym same_mark) (sound_here m first here both.0)

    module _ (x : MapView) (z : Curves) (new : BusRow) (t : IsToldRun g b now (part_step here g.graph u w c ∷ []) x z new) where
      one : IsToldRun g b now (more_step first m ∷ []) x z new
      one = told_runs_lawful.same_steps g b now _ (more_step first m ∷ []) x z new (ap (λ y. y ∷ []) (ap (more_step here) same_mark ∙ sym (one_step m first here both.0.allowed))) t

      made : drawn_graph x.graph z ≡ apply (more_step first m) here
      unfolding run
      made = (made_is_run g.graph b (more_step first m ∷ []) x.graph z i.in_step.sound.graph i.in_step.curves (told_runs_lawful.steps g b now (more_step first m ∷ []) x z new one)).graph

      pub goes_on : AreInStep x z new → x.graph.vertices ≡ g.graph.vertices → IsGoing v h old all ms x z new
      goes_on n e = record {
        in_step = n;
        vertices = e ∙ i.vertices;
        sound = subst (AreSound (steps_of v h ms)) (sym made) both.1;
        told = λ y d f n. i.told y d f (told_runs_lawful.same_steps g b now _ (steps_of v h rest) y d f (sym (ap (steps_of v h) next)) (told_runs_lawful.follow g b now (more_step first m ∷ []) (steps_of v h ms) x z new y d f one n));
      }

      -- the mark is drawn from then on
      pub comes : Member m (drawn_graph x.graph z).marks
      comes = subst (λ (k : Graph). Member m k.marks) (sym (made ∙ more_is first here m)) (in_place mark_cmp mark_cmp_total mark_cmp_exact m m here.marks (inl refl))

-- ---- where sides of curves are told apart: the marks that are still to come make all that is to come
abbrev pub AreHeld : View → Past → List Mark → List Mark → View → Past → Type 0
AreHeld v p all rest g q = run (map hold_step rest) (strand_graph g q) ≡ run (map hold_step all) (strand_graph v p)

module _ (v : View) (p : Past) (all rest : List Mark) (g : View) (q : Past) (i : AreHeld v p all rest g q) where
  pub all_held : rest ≡ [] → IsStrandRun v p (map hold_step all) g q
  unfolding run
  all_held e = sym (ap (λ ns. run (map hold_step ns) (strand_graph g q)) e) ∙ i

  module _ (u w : VertexId) (z : ℕ) (ms : List Mark) (e : g.vertices ≡ v.vertices) (next : rest ≡ mark (point_in v u) (point_in v w) z ∷ ms) (x : View) (r : Past) (t : IsStrandRun g q (hold_step (mark (point_in g u) (point_in g w) z) ∷ []) x r) where
    abbrev n : Mark
    n = mark (point_in v u) (point_in v w) z

    -- one side more is drawn
    pub side_made : strand_graph x r ≡ apply (hold_step n) (strand_graph g q)
    unfolding run
    side_made = t ∙ ap (λ m. apply (hold_step m) (strand_graph g q)) (ap (λ (vs : _). mark (point_in (record { vertices = vs; darts = g.darts }) u) (point_in (record { vertices = vs; darts = g.darts }) w) z) e)

    pub next_held : AreHeld v p all ms x r
    unfolding run
    next_held = ap (run (map hold_step ms)) side_made ∙ sym (ap (λ ns. run (map hold_step ns) (strand_graph g q)) next) ∙ i
