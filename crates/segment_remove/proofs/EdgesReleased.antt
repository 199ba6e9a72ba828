-- A curve that goes from its edges, one after the other, each loss told, and what is still to come.
use Rattle.std.proofs.Common.{◌≡◌, ◌≢◌, ℕ, suc, ◌+◌, ◌<◌, List, [], ◌∷◌, map, length, get_or, drop, drop-cons, Bool, not, Less, refl, sym, ap, ap₂, ◌∙◌, subst, inl, inr, nat_cmp, arith}
use Rattle.std.specs.Prelude.{◌↔◌}
use Rattle.std.specs.List.{AllByRecursion, filter, list_any}
use Rattle.std.proofs.lemmas.Cmp.{tied_itself}
use Rattle.plane_graphs.specs.Ascending.{Member, IsAscending}
use Rattle.plane_graphs.specs.Graph.{Graph, Mark, Edge, mark, mark_cmp, edge_cmp, same_curve}
use Rattle.plane_graphs.proofs.Ascending.{All-member, ascending_unique}
use Rattle.plane_graphs.proofs.Lists.{in_map, of_map, in_filter, of_filter, IsAscending-filter}
use Rattle.plane_graphs.proofs.Meaning.{edge_cmp_total}
use Rattle.plane_graphs.proofs.Order.{curve_in, curve_out, mark_cmp_total}
use Rattle.edit_steps.specs.Steps.{Step, less_step}
use Rattle.slab_laws.specs.declared.names.CurveId.{CurveId}
use Rattle.slab_laws.specs.declared.names.DartId.{DartId}
use Rattle.slab_laws.specs.Sound.{IsGraphSound}
use Rattle.slab_laws.specs.View.{View, point_in, source_in, target_in}
use Rattle.arr_notes.specs.Curves.{Curves, AreCurvesOf, IsForward}
use Rattle.arr_notes.specs.MapView.{MapView}
use Rattle.arr_notes.proofs.Names.{cases_dart}
use Rattle.arr_notes.specs.RecordGraph.{drawn_graph}
use Rattle.sound_changes.proofs.StepGraphs.{drawn_ordered}
use Rattle.sound_changes.proofs.StepHolds.{mark_held, held_mark}
use Rattle.sound_changes.proofs.StepCases.{IsSameWay, unchanged_way}
use Rattle.observer_bus.specs.Rounds.{BusRow}
use Rattle.record_orders.specs.declared.darts.DartKey.{DartKey}
use Rattle.record_orders.specs.Keys.{dart_key}
use Rattle.record_orders.specs.Edges.{edge_of_key}
use Rattle.told_steps.proofs.LayerEdges.{forward_by_curve}
use Rattle.told_steps.proofs.Stays.{way_on}
use Rattle.told_steps.specs.ToldRuns.{AreInStep, IsToldRun}
use Rattle.told_steps.proofs.Begun.{none_told}
use Rattle.told_steps.proofs.ToldTogether.{told_runs_lawful}
use Rattle.segment_remove.specs.CurveLosses.{is_shared, loss_between, loss_step, HasLost, HaveLost, IsCurveGone, IsLossTold}
use Rattle.segment_remove.proofs.CurveLost.{less_is_loss, way_stays, curves_stay, vertices_stay, lost}
use Rattle.integers.proofs.Tests.{less_then}

edge_itself : (e : Edge) → edge_cmp e e ≡ Less → ⊥
edge_itself e h = let t = tied_itself edge_cmp_total e in cc

pub next_key : (ks : List DartKey) (i : ℕ) (k : DartKey) → i < length ks → k ≡ get_or ks i k → drop i ks ≡ k ∷ drop (i + 1) ks
next_key ks i k l e =
    let more : suc i ≡ i + 1 = omega arith in
    drop-cons ks i k l ∙ (λ j. sym e j ∷ drop (more j) ks)

module _ (v : MapView) (h : Curves) (c : CurveId) where
  -- the step that takes the curve from the edge of a key
  abbrev pub step_of : DartKey → Step
  step_of k = loss_between (is_shared h k.name c.0) k.source k.target c.0

  -- the curve's mark on the edge of a key
  abbrev mark_of : DartKey → Mark
  mark_of k = mark k.source k.target c.0

  -- ---- keys still to come
  pub record IsLater (g : MapView) (b : Curves) (k : DartKey) : Type 0 where
    pub told : k ≡ dart_key v.graph k.name
    pub runs : Member c.0 (h k.name)
    pub way : IsSameWay v.graph g.graph k.name
    pub curves : b k.name ≡ h k.name

  pub record IsGoing (e : BusRow) (all ks : List DartKey) (g : MapView) (b : Curves) (r : BusRow) : Type 0 where
    pub in_step : AreInStep g b r
    pub vertices : g.graph.vertices ≡ v.graph.vertices
    pub ascend : IsAscending edge_cmp (map edge_of_key ks)
    pub later : (k : DartKey) → Member k ks → IsLater g b k
    pub left : (d : DartId) → Member c.0 (b d) → Member d (map (λ k. k.name) ks)
    pub told : (x : MapView) (z : Curves) (q : BusRow) → IsToldRun g b r (map step_of ks) x z q → IsToldRun v h e (map step_of all) x z q

  pub with_keys : {e : BusRow} {all ks js : List DartKey} {g : MapView} {b : Curves} {r : BusRow} → ks ≡ js → IsGoing e all ks g b r → IsGoing e all js g b r
  with_keys {e} {all} {ks} {js} {g} {b} {r} same i = subst (λ xs. IsGoing e all xs g b r) same i

  module _ (e : BusRow) (all ks : List DartKey) (k : DartKey) (g : MapView) (b : Curves) (r : BusRow) (i : IsGoing e all (k ∷ ks) g b r) where
    here : IsLater g b k
    here = i.later k (inl refl)

    pub runs_here : Member c.0 (b k.name)
    runs_here = subst (Member c.0) (sym here.curves) here.runs

    forward_here : IsForward g.graph k.name
    forward_here = forward_by_curve g.graph b i.in_step.curves c.0 k.name runs_here

    -- the step is the one that the first graph asks for
    same_step : loss_step g.graph b k.name c ≡ step_of k
    same_step =
        let shared : is_shared b k.name c.0 ≡ is_shared h k.name c.0 = ap (λ cs. list_any (λ n. not (same_curve n c.0)) cs) here.curves in
        let start : point_in g.graph (source_in g.graph k.name) ≡ k.source = here.way.start ∙ ap (λ (x : DartKey). x.source) (sym here.told) in
        let end : point_in g.graph (target_in g.graph k.name) ≡ k.target = here.way.end ∙ ap (λ (x : DartKey). x.target) (sym here.told) in
        λ j. loss_between (shared j) (start j) (end j) c.0

    -- later keys are of other edges
    apart : (j : DartKey) → Member j ks → j.name ≢ k.name
    apart j m same =
        let less : edge_cmp (edge_of_key k) (edge_of_key j) ≡ Less = All-member (λ y. edge_cmp (edge_of_key k) y ≡ Less) (edge_of_key j) (map edge_of_key ks) i.ascend.0 (in_map edge_of_key j ks m) in
        let one : j ≡ k = (i.later j (inr m)).told ∙ ap (dart_key v.graph) same ∙ sym here.told in
        edge_itself (edge_of_key k) (subst (λ z. edge_cmp (edge_of_key k) (edge_of_key z) ≡ Less) one less)

    module _ (x : MapView) (z : Curves) (is : HasLost g.graph b k.name c x.graph) (are : HaveLost b k.name c z) where
      later_still : (j : DartKey) → Member j ks → IsLater x z j
      later_still j m =
          let l = i.later j (inr m) in
          let f = forward_by_curve g.graph b i.in_step.curves c.0 j.name (subst (Member c.0) (sym l.curves) l.runs) in
          record {
            told = l.told;
            runs = l.runs;
            way = way_on v.graph g.graph x.graph j.name l.way (subst (λ y. IsSameWay g.graph y j.name) (sym is) (way_stays g.graph b i.in_step.sound.graph k.name forward_here c j.name (apart j m) f));
            curves = are j.name ∙ curves_stay g.graph b i.in_step.sound.graph k.name forward_here c j.name (apart j m) ∙ l.curves;
          }

      not_here : (d : DartId) → d ≢ k.name → Member d (map (λ j. j.name) (k ∷ ks)) → Member d (map (λ j. j.name) ks)
      not_here d ne (inl e) = absurd (ne e)
      not_here d ne (inr m) = m

      left_still : (d : DartId) → Member c.0 (z d) → Member d (map (λ j. j.name) ks)
      left_still d m = elim (cases_dart d k.name) [
        | inl e ↦ absurd (lost g.graph b i.in_step.sound.graph k.name forward_here c (subst (Member c.0) (are k.name) (subst (λ y. Member c.0 (z y)) e m)))
        | inr ne ↦ not_here d ne (i.left d (subst (Member c.0) (are d ∙ curves_stay g.graph b i.in_step.sound.graph k.name forward_here c d ne) m))
      ]

      pub goes_on : (q : BusRow) → AreInStep x z q → IsLossTold g b r k.name c x z q → IsGoing e all ks x z q
      goes_on q now lost_here = record {
        in_step = now;
        vertices = ap (λ (y : View). y.vertices) is ∙ vertices_stay g.graph b i.in_step.sound.graph k.name forward_here c ∙ i.vertices;
        ascend = i.ascend.1;
        later = later_still;
        left = left_still;
        told = λ y w u n. i.told y w u (told_runs_lawful.follow g b r (step_of k ∷ []) (map step_of ks) x z q y w u (told_runs_lawful.same_steps g b r _ (step_of k ∷ []) x z q (ap (λ o. o ∷ []) same_step) lost_here) n);
      }

  -- ---- all keys of the curve
  module _ (s : IsGraphSound v.graph) (a : AreCurvesOf v.graph h) (ks : List DartKey) (told : AllByRecursion (λ k. k ≡ dart_key v.graph k.name) ks) (are : (d : DartId) → Member d (map (λ k. k.name) ks) ↔ Member c.0 (h d)) (ascend : IsAscending edge_cmp (map edge_of_key ks)) where
    abbrev drawn : Graph
    drawn = drawn_graph v.graph h

    told_by : (k : DartKey) → Member k ks → k ≡ dart_key v.graph k.name
    told_by k m = All-member (λ k. k ≡ dart_key v.graph k.name) k ks told m

    runs_by : (k : DartKey) → Member k ks → Member c.0 (h k.name)
    runs_by k m = (are k.name).0 (in_map (λ k. k.name) k ks m)

    forward_by : (k : DartKey) → Member k ks → IsForward v.graph k.name
    forward_by k m = forward_by_curve v.graph h a c.0 k.name (runs_by k m)

    pub starts : (e : BusRow) → AreInStep v h e → IsGoing e ks ks v h e
    starts e now = record {
      in_step = now;
      vertices = refl;
      ascend = ascend;
      later = λ k m. record { told = told_by k m; runs = runs_by k m; way = unchanged_way v.graph k.name (forward_by k m).0; curves = refl };
      left = λ d m. (are d).1 m;
      told = λ x z q m. m;
    }

    -- ---- their marks are those of the curve in the graph that is drawn
    above : (k : DartKey) (js : List DartKey) → AllByRecursion (λ y. edge_cmp (edge_of_key k) y ≡ Less) (map edge_of_key js) → AllByRecursion (λ y. mark_cmp (mark_of k) y ≡ Less) (map mark_of js)
    unfolding edge_cmp mark_cmp
    above k [] e = tt
    above k (j ∷ js) e = (less_then _ _ (nat_cmp c.0 c.0) e.0, above k js e.1)

    marks_ascend : (js : List DartKey) → IsAscending edge_cmp (map edge_of_key js) → IsAscending mark_cmp (map mark_of js)
    marks_ascend [] e = tt
    marks_ascend (j ∷ js) e = (above j js e.0, marks_ascend js e.1)

    abbrev is_its : Mark → Bool
    is_its m = same_curve m.curve c.0

    into : (m : Mark) → Member m (map mark_of ks) → Member m (filter is_its drawn.marks)
    into m n =
        let k = of_map mark_of m ks n in
        let t = told_by k.0 k.1 in
        let there = mark_held v.graph s.named h (mark_of k.0) k.0.name (record {
          forward = forward_by k.0 k.1;
          low = ap (λ (x : DartKey). x.source) (sym t);
          high = ap (λ (x : DartKey). x.target) (sym t);
          curve = runs_by k.0 k.1;
        }) in
        subst (λ x. Member x (filter is_its drawn.marks)) (sym k.2) (in_filter is_its (mark_of k.0) drawn.marks there (curve_in c.0 c.0 refl))

    from : (m : Mark) → Member m (filter is_its drawn.marks) → Member m (map mark_of ks)
    from m n =
        let f = of_filter is_its m drawn.marks n in
        let d = held_mark v.graph s.named h m f.0 in
        let e : m.curve ≡ c.0 = curve_out m.curve c.0 f.1 in
        let k = of_map (λ k. k.name) d.0 ks ((are d.0).1 (subst (λ z. Member z (h d.0)) e d.1.curve)) in
        let t : k.0 ≡ dart_key v.graph d.0 = told_by k.0 k.1 ∙ ap (dart_key v.graph) (sym k.2) in
        let start : k.0.source ≡ m.low = ap (λ (x : DartKey). x.source) t ∙ d.1.low in
        let end : k.0.target ≡ m.high = ap (λ (x : DartKey). x.target) t ∙ d.1.high in
        let same : mark_of k.0 ≡ m = λ j. mark (start j) (end j) (sym e j) in
        subst (λ x. Member x (map mark_of ks)) same (in_map mark_of k.0 ks k.1)

    marks_are : filter is_its drawn.marks ≡ map mark_of ks
    marks_are =
        ascending_unique mark_cmp mark_cmp_total (filter is_its drawn.marks) (map mark_of ks)
        (IsAscending-filter mark_cmp is_its drawn.marks (drawn_ordered v.graph h).marks) (marks_ascend ks ascend) from into

    step_is : (k : DartKey) → Member k ks → less_step drawn (mark_of k) ≡ step_of k
    step_is k m =
        let t = told_by k m in
        let start : k.source ≡ point_in v.graph (source_in v.graph k.name) = ap (λ (x : DartKey). x.source) t in
        let end : k.target ≡ point_in v.graph (target_in v.graph k.name) = ap (λ (x : DartKey). x.target) t in
        (λ j. less_step drawn (mark (start j) (end j) c.0)) ∙ less_is_loss v.graph h s k.name (forward_by k m) c.0 ∙ (λ j. loss_between (is_shared h k.name c.0) (sym start j) (sym end j) c.0)

    steps_by : (js : List DartKey) → ((k : DartKey) → Member k js → Member k ks) → map (less_step drawn) (map mark_of js) ≡ map step_of js
    steps_by [] f = refl
    steps_by (j ∷ js) f = ap₂ (λ x xs. x ∷ xs) (step_is j (f j (inl refl))) (steps_by js (λ k m. f k (inr m)))

    steps_are : map step_of ks ≡ map (less_step drawn) (filter is_its drawn.marks)
    steps_are = sym (ap (map (less_step drawn)) marks_are ∙ steps_by ks (λ k m. m))

    module _ (e : BusRow) (g : MapView) (b : Curves) (r : BusRow) (i : IsGoing e ks [] g b r) where
      pub ends : IsCurveGone v h e c g b r
      ends = told_runs_lawful.same_steps v h e _ (map (less_step drawn) (filter is_its drawn.marks)) g b r steps_are (i.told g b r (none_told g b r))

      pub gone : (d : DartId) → ¬ Member c.0 (b d)
      gone d m = i.left d m
