-- Vertices tidied one after the other: what is done makes the steps for their points that are no vertices of the present.
use Rattle.std.proofs.Common.{◌≡◌, ℕ, suc, ◌+◌, ◌<◌, ◌≤◌, length, take, drop, get_or, drop-cons, add-one, Less, true, false, List, [], ◌∷◌, ◌++◌, map, refl, sym, ap, ◌∙◌, subst, inl, inr}
use Rattle.std.proofs.Math.Seq.{take-suc}
use Rattle.std.proofs.lemmas.List.{append-nil, map-append, take-append-drop, take_all}
use Rattle.std.specs.List.{AllByRecursion, list_any}
use Rattle.exact_plane.specs.Point.{Point}
use Rattle.exact_plane.specs.PointOrder.{point_cmp}
use Rattle.exact_plane.specs.PointOrderLaws.{point_cmp_total}
use Rattle.plane_graphs.specs.Ascending.{Member, IsAscending}
use Rattle.plane_graphs.specs.Graph.{Graph, graph_over, vertices}
use Rattle.plane_graphs.specs.Line.{IsProper, same_point}
use Rattle.plane_graphs.specs.Piece.{Present}
use Rattle.plane_graphs.specs.Strands.{strand_pieces}
use Rattle.plane_graphs.proofs.Ascending.{All-member, IsAscending-ascending}
use Rattle.plane_graphs.proofs.Closed.{IsClosed}
use Rattle.plane_graphs.proofs.Lines.{geometry}
use Rattle.plane_graphs.proofs.Lists.{ascends_left, ascends_right, clash, decide, in_left, in_map, of_map}
use Rattle.plane_graphs.proofs.Order.{lt_never}
use Rattle.plane_graphs.proofs.Vertices.{vertex_in, vertices_closed}
use Rattle.plane_graphs.proofs.Vertices.IsVertex.{pinned}
use Rattle.edit_steps.specs.EditLaws.{IsLoose}
use Rattle.edit_steps.specs.Steps.{missing_points, run, tidy_step, tidy_steps}
use Rattle.edit_steps.proofs.Folds.{IsSum, closed_more, missing_sum, shrunk}
use Rattle.edit_steps.proofs.Seen.{loose_is_no_vertex}
use Rattle.edit_steps.proofs.Sound.{tidy_sound}
use Rattle.edit_steps.proofs.StrandSteps.{same_shrunk, strands_closed}
use Rattle.slab_laws.specs.declared.names.VertexId.{VertexId}
use Rattle.slab_laws.specs.Sound.{IsGraphSound}
use Rattle.slab_laws.specs.View.{View, HasVertex, point_in, pinned_in}
use Rattle.arr_notes.specs.Curves.{Curves, AreCurvesOf}
use Rattle.arr_notes.specs.MapView.{MapView}
use Rattle.arr_notes.specs.RecordGraph.{drawn_graph}
use Rattle.dcel_records.specs.RecordsView.{RecordsView, SameRecordCapacity}
use Rattle.curve_history.specs.Past.{Past, SameHistoryCapacity, curves_on}
use Rattle.observer_bus.specs.Rounds.{BusRow}
use Rattle.sound_changes.proofs.StepHolds.{held_pin, held_point, pin_held, point_held}
use Rattle.told_steps.proofs.Runs.{made_is_run}
use Rattle.told_steps.proofs.Stays.{IsSamePlace}
use Rattle.told_steps.proofs.ToldTogether.{told_runs_lawful}
use Rattle.told_steps.specs.SidedRuns.{IsSidedRun}
use Rattle.told_steps.specs.StrandRuns.{strand_graph}
use Rattle.told_steps.specs.ToldRuns.{AreInStep}
use Rattle.told_steps.proofs.SidedRuns.{none_sided, sided_as, sided_then}
use Rattle.told_steps.specs.Left.{AreLeft, tidying}
use Rattle.told_steps.specs.Tidied.{IsTidied}
use Rattle.told_steps.proofs.Missing.{known, missing_ascend, missing_in, missing_out, none_missing, one_missing, one_step_on, same_missing, unknown}
use Rattle.told_steps.proofs.Stayed.{other_stays, tidied_in_step}

points_ascend : (v : View) (h : Curves) → IsAscending point_cmp (drawn_graph v h).points
unfolding drawn_graph
points_ascend v h = IsAscending-ascending point_cmp point_cmp_total _

-- ---- what the records draw after the steps for some of the points
module _ (v : MapView) (h : Past) (b : BusRow) (s : IsGraphSound v.graph) (a : AreCurvesOf v.graph (curves_on h)) (p : Present) (all : List Point) (l : AreLeft v.graph h p all) (done : List Point) (ascend : IsAscending point_cmp done) (there : (x : Point) → Member x done → Member x (drawn_graph v.graph (curves_on h)).points) where
  abbrev g : Graph
  g = drawn_graph v.graph (curves_on h)

  abbrev vs : List Point
  vs = vertices p

  abbrev gone : List Point
  gone = missing_points done vs

  abbrev rest : List Point
  rest = missing_points g.points gone

  proper : (x : Point) → Member x g.points → IsProper x
  proper x m = let w = held_point v.graph s.named (curves_on h) x m in subst IsProper w.1.at (s.drawn.proper w.0 w.1.has)

  gone_there : (x : Point) → Member x gone → Member x g.points
  gone_there x m = there x (missing_out done vs x m).0

  rest_there : (x : Point) → Member x rest → Member x g.points
  rest_there x m = (missing_out g.points gone x m).0

  sum : IsSum g.points gone rest
  sum =
      let t = missing_sum g.points gone (points_ascend v.graph (curves_on h)) gone_there in
      record {
        whole = t.whole;
        parts = missing_ascend done vs ascend;
        either = λ x m. elim (t.either x m) [ inl k ↦ inr k | inr k ↦ inl k ];
        from_rs = t.from_vs;
        from_vs = t.from_rs;
        apart = λ x m n. t.apart x n m;
      }

  rest_ascend : IsAscending point_cmp rest
  rest_ascend = missing_ascend g.points gone (points_ascend v.graph (curves_on h))

  vertices_rest : (x : Point) → Member x vs → Member x rest
  vertices_rest x m = missing_in g.points gone x (l.have x m) (λ k. (missing_out done vs x k).1 m)

  closed : IsClosed rest p.pieces
  closed = closed_more vs rest p.pieces (vertices_closed geometry p l.fit) rest_ascend vertices_rest (λ x m. proper x (rest_there x m))

  run_is : run (tidy_steps gone g) g ≡ graph_over rest p.pieces p.pins
  run_is = subst (λ z. run (tidy_steps gone z) z ≡ graph_over rest p.pieces p.pins) (sym l.draws) (shrunk p.pieces p.pins (tidy_sound p.pieces p.pins) gone g.points rest sum closed (λ x m. proper x (gone_there x m))).0

  -- and where the sides of curves are told apart
  apart_closed : IsClosed rest (strand_pieces p.pieces)
  apart_closed = strands_closed rest p l.fit vertices_rest closed

  run_apart : run (tidy_steps gone g) (strand_graph v.graph h) ≡ graph_over rest (strand_pieces p.pieces) p.pins
  run_apart =
      (λ i. run (tidy_steps gone (l.draws i)) (l.strands i))
      ∙ ap (λ ss. run ss (graph_over g.points (strand_pieces p.pieces) p.pins)) (sym (same_shrunk p.pieces p.pins gone g.points rest sum closed apart_closed (λ x m. proper x (gone_there x m))))
      ∙ (shrunk (strand_pieces p.pieces) p.pins (tidy_sound (strand_pieces p.pieces) p.pins) gone g.points rest sum apart_closed (λ x m. proper x (gone_there x m))).0

  module _ (w : MapView) (k : Past) (c : BusRow) (sw : IsGraphSound w.graph) (told : IsSidedRun v h b (tidy_steps gone g) w k c) (x : VertexId) (has : HasVertex w.graph x) where
    abbrev r : Point
    r = point_in w.graph x

    ran : drawn_graph w.graph (curves_on k) ≡ run (tidy_steps gone g) g
    ran = (made_is_run v.graph (curves_on h) (tidy_steps gone g) w.graph (curves_on k) s a (told_runs_lawful.steps v (curves_on h) b (tidy_steps gone g) w (curves_on k) c told.told)).graph

    drawn : drawn_graph w.graph (curves_on k) ≡ graph_over rest p.pieces p.pins
    drawn = ran ∙ run_is

    apart : strand_graph w.graph k ≡ graph_over rest (strand_pieces p.pieces) p.pins
    apart = told.strands ∙ run_apart

    here : Member r rest
    here = subst (λ z. Member r z.points) drawn (point_held w.graph sw.named (curves_on k) x has)

    -- a pinned vertex is one of the present
    pub pinned_stays : pinned_in w.graph x ≡ true → IsSidedRun v h b (tidy_steps (missing_points (done ++ (r ∷ [])) vs) g) w k c
    pinned_stays e =
        let m : Member r vs = vertex_in p r (pinned (subst (λ z. Member r z.pins) drawn (pin_held w.graph sw.named (curves_on k) x has e))) in
        sided_as v h b (tidy_steps gone g) _ w k c told (ap (λ ps. tidy_steps ps g) (sym (none_missing done vs r m)))

    unpinned : pinned_in w.graph x ≡ false → Member r p.pins → ⊥
    unpinned e m =
        let u = held_pin w.graph sw.named (curves_on k) r (subst (λ z. Member r z.pins) (sym drawn) m) in
        clash (subst (λ z. pinned_in w.graph z ≡ true) (sw.drawn.points u.0 x u.1.has has u.1.at) u.2) e

    goes : pinned_in w.graph x ≡ false → IsLoose (strand_graph w.graph k) r → Member r vs → ⊥
    goes e i = loose_is_no_vertex.go p rest r l.fit rest_ascend (λ q m. proper q (rest_there q m)) vertices_rest here (unpinned e) (subst (λ z. IsLoose z r) apart i)

    stays : (IsLoose (strand_graph w.graph k) r → ⊥) → Member r vs
    stays n = elim (decide (list_any (same_point r) vs)) [
      | inl e ↦ known vs r e
      | inr e ↦ absurd (n (subst (λ z. IsLoose z r) (sym apart) (loose_is_no_vertex.stay p rest r l.fit rest_ascend (λ q m. proper q (rest_there q m)) vertices_rest here (unknown vs r e)).1))
    ]

    -- one that is not pinned stays just where it is one of the present
    pub tidied_goes : pinned_in w.graph x ≡ false → (w2 : MapView) (k2 : Past) (c2 : BusRow) → IsTidied w k c r w2 k2 c2 → IsSidedRun v h b (tidy_steps (missing_points (done ++ (r ∷ [])) vs) g) w2 k2 c2
    tidied_goes e w2 k2 c2 (inl t) =
        sided_as v h b (tidy_steps gone g ++ (tidy_step r (drawn_graph w.graph (curves_on k)) ∷ [])) _ w2 k2 c2
        (sided_then v h b (tidy_steps gone g) (tidy_step r (drawn_graph w.graph (curves_on k)) ∷ []) w k c told w2 k2 c2 t.1)
        (ap (λ z. tidy_steps gone g ++ (tidy_step r z ∷ [])) ran ∙ sym (one_step_on gone r g) ∙ ap (λ ps. tidy_steps ps g) (sym (one_missing done vs r (goes e t.0))))
    tidied_goes e w2 k2 c2 (inr t) =
        sided_as v h b (tidy_steps gone g ++ []) _ w2 k2 c2
        (sided_then v h b (tidy_steps gone g) [] w k c told w2 k2 c2 t.1)
        (append-nil (tidy_steps gone g) ∙ ap (λ ps. tidy_steps ps g) (sym (none_missing done vs r (stays t.0))))

pub same_records : (a b c : RecordsView) → SameRecordCapacity a b → SameRecordCapacity b c → SameRecordCapacity a c
same_records a b c x y = record { of_vertices = y.of_vertices ∙ x.of_vertices; of_darts = y.of_darts ∙ x.of_darts }

pub same_histories : (a b c : Past) → SameHistoryCapacity a b → SameHistoryCapacity b c → SameHistoryCapacity a c
same_histories a b c x y = record { by_edge = y.by_edge ∙ x.by_edge; by_curve = y.by_curve ∙ x.by_curve; of_pieces = y.of_pieces ∙ x.of_pieces }

-- ---- the walk along the vertices
-- the first of the vertices are tidied, the last ones have their records still; what the steps are is said for any present that the records are to stand for
pub record AreTidied (v : MapView) (h : Past) (b : BusRow) (all first last : List VertexId) (w : MapView) (k : Past) (c : BusRow) : Type 0 where
  pub in_step : AreInStep w (curves_on k) c
  pub stay : AllByRecursion (IsSamePlace v.graph w.graph) last
  pub told : (p : Present) → AreLeft v.graph h p (map (point_in v.graph) all) → IsSidedRun v h b (tidy_steps (missing_points (map (point_in v.graph) first) (vertices p)) (drawn_graph v.graph (curves_on h))) w k c

all_by : (P Q : VertexId → Type 0) (xs : List VertexId) → ((x : VertexId) → Member x xs → P x → Q x) → AllByRecursion P xs → AllByRecursion Q xs
all_by P Q [] f a = tt
all_by P Q (x ∷ xs) f a = (f x (inl refl) a.0, all_by P Q xs (λ y m. f y (inr m)) a.1)

-- at first, nothing is
pub none_tidied : (v : MapView) (h : Past) (b : BusRow) (all : List VertexId) → AreInStep v (curves_on h) b → AllByRecursion (HasVertex v.graph) all → AreTidied v h b all [] all v h b
unfolding tidy_steps missing_points
none_tidied v h b all i has = record {
  in_step = i;
  stay = all_by (HasVertex v.graph) (IsSamePlace v.graph v.graph) all (λ x m o. record { has = o; point = refl }) has;
  told = λ p l. none_sided v h b;
}

module _ (v : MapView) (h : Past) (b : BusRow) (i : AreInStep v (curves_on h) b) (all : List VertexId) (have : AllByRecursion (HasVertex v.graph) all) (ascend : IsAscending point_cmp (map (point_in v.graph) all)) where
  all_there : (x : Point) → Member x (map (point_in v.graph) all) → Member x (drawn_graph v.graph (curves_on h)).points
  all_there x m =
      let u = of_map (point_in v.graph) x all m in
      subst (λ z. Member z (drawn_graph v.graph (curves_on h)).points) (sym u.2) (point_held v.graph i.sound.graph.named (curves_on h) u.0 (All-member (HasVertex v.graph) u.0 all have u.1))

  -- in the end, all points that are no vertices of the present went
  pub all_told : (w : MapView) (k : Past) (c : BusRow) (last : List VertexId) → AreTidied v h b all all last w k c → (p : Present) → AreLeft v.graph h p (map (point_in v.graph) all) → IsSidedRun v h b (tidying (drawn_graph v.graph (curves_on h)) p) w k c
  all_told w k c last t p l =
      sided_as v h b _ _ w k c
      (t.told p l)
      (ap (λ ps. tidy_steps ps (drawn_graph v.graph (curves_on h))) (same_missing (map (point_in v.graph) all) (drawn_graph v.graph (curves_on h)).points (vertices p) ascend (points_ascend v.graph (curves_on h)) all_there l.others))

  -- the next vertex
  module _ (first last : List VertexId) (x : VertexId) (split : first ++ (x ∷ last) ≡ all) (w : MapView) (k : Past) (c : BusRow) (t : AreTidied v h b all first (x ∷ last) w k c) where
    abbrev firsts : List Point
    firsts = map (point_in v.graph) first

    parts : firsts ++ (point_in v.graph x ∷ map (point_in v.graph) last) ≡ map (point_in v.graph) all
    parts = sym (map-append (point_in v.graph) first (x ∷ last)) ∙ ap (map (point_in v.graph)) split

    parts_ascend : IsAscending point_cmp (firsts ++ (point_in v.graph x ∷ map (point_in v.graph) last))
    parts_ascend = subst (IsAscending point_cmp) (sym parts) ascend

    firsts_ascend : IsAscending point_cmp firsts
    firsts_ascend = ascends_left point_cmp firsts (point_in v.graph x ∷ map (point_in v.graph) last) parts_ascend

    firsts_there : (q : Point) → Member q firsts → Member q (drawn_graph v.graph (curves_on h)).points
    firsts_there q m = all_there q (subst (Member q) parts (in_left q firsts (point_in v.graph x ∷ map (point_in v.graph) last) m))

    -- it has its record, and the others that are left stand elsewhere
    pub next_has : HasVertex w.graph x
    next_has = t.stay.0.has

    later : (u : VertexId) → Member u last → point_in w.graph u ≡ point_in v.graph u → point_in w.graph u ≡ point_in w.graph x → ⊥
    later u m at e =
        let o = All-member (λ q. point_cmp (point_in v.graph x) q ≡ Less) (point_in v.graph u) (map (point_in v.graph) last) (ascends_right point_cmp firsts (point_in v.graph x ∷ map (point_in v.graph) last) parts_ascend).0 (in_map (point_in v.graph) u last m) in
        lt_never {p = point_in v.graph x} (record { is = subst (λ q. point_cmp (point_in v.graph x) q ≡ Less) (sym at ∙ e ∙ t.stay.0.point) o })

    named : (w2 : MapView) (k2 : Past) (c2 : BusRow) (p : Present) → IsSidedRun v h b (tidy_steps (missing_points (firsts ++ (point_in w.graph x ∷ [])) (vertices p)) (drawn_graph v.graph (curves_on h))) w2 k2 c2 → IsSidedRun v h b (tidy_steps (missing_points (map (point_in v.graph) (first ++ (x ∷ []))) (vertices p)) (drawn_graph v.graph (curves_on h))) w2 k2 c2
    named w2 k2 c2 p m =
        sided_as v h b _ _ w2 k2 c2 m
        (ap (λ ps. tidy_steps (missing_points ps (vertices p)) (drawn_graph v.graph (curves_on h))) (ap (λ q. firsts ++ (q ∷ [])) t.stay.0.point ∙ sym (map-append (point_in v.graph) first (x ∷ []))))

    pub pinned_on : pinned_in w.graph x ≡ true → AreTidied v h b all (first ++ (x ∷ [])) last w k c
    pinned_on e = record {
      in_step = t.in_step;
      stay = t.stay.1;
      told = λ p l. named w k c p (pinned_stays v h b i.sound.graph i.curves p (map (point_in v.graph) all) l firsts firsts_ascend firsts_there w k c t.in_step.sound.graph (t.told p l) x next_has e);
    }

    pub tidied_on : pinned_in w.graph x ≡ false → (w2 : MapView) (k2 : Past) (c2 : BusRow) → IsTidied w k c (point_in w.graph x) w2 k2 c2 → AreTidied v h b all (first ++ (x ∷ [])) last w2 k2 c2
    tidied_on e w2 k2 c2 d = record {
      in_step = tidied_in_step w k c t.in_step (point_in w.graph x) w2 k2 c2 d;
      stay = all_by (IsSamePlace v.graph w.graph) (IsSamePlace v.graph w2.graph) last (
          λ u m o.
          let n = other_stays w k c t.in_step (point_in w.graph x) w2 k2 c2 d u o.has (later u m o.point) in
          record { has = n.has; point = n.point ∙ o.point }
          ) t.stay.1;
      told = λ p l. named w2 k2 c2 p (tidied_goes v h b i.sound.graph i.curves p (map (point_in v.graph) all) l firsts firsts_ascend firsts_there w k c t.in_step.sound.graph (t.told p l) x next_has e w2 k2 c2 d);
    }

  -- ---- by the number of those that are done
  module _ (n : ℕ) (lt : n < length all) (d : VertexId) (w : MapView) (k : Past) (c : BusRow) (t : AreTidied v h b all (take n all) (drop n all) w k c) where
    abbrev next : VertexId
    next = get_or all n d

    at_next : AreTidied v h b all (take n all) (next ∷ drop (suc n) all) w k c
    at_next = subst (λ ys. AreTidied v h b all (take n all) ys w k c) (drop-cons all n d lt) t

    split_next : take n all ++ (next ∷ drop (suc n) all) ≡ all
    split_next = ap (λ ys. take n all ++ ys) (sym (drop-cons all n d lt)) ∙ take-append-drop n all

    one_done : (w2 : MapView) (k2 : Past) (c2 : BusRow) → AreTidied v h b all (take n all ++ (next ∷ [])) (drop (suc n) all) w2 k2 c2 → AreTidied v h b all (take (n + 1) all) (drop (n + 1) all) w2 k2 c2
    one_done w2 k2 c2 m = rw add-one (subst (λ ys. AreTidied v h b all ys (drop (suc n) all) w2 k2 c2) (sym (take-suc all n d lt)) m)

    pub pinned_next : pinned_in w.graph next ≡ true → AreTidied v h b all (take (n + 1) all) (drop (n + 1) all) w k c
    pinned_next e = one_done w k c (pinned_on (take n all) (drop (suc n) all) next split_next w k c at_next e)

    pub tidied_next : pinned_in w.graph next ≡ false → (w2 : MapView) (k2 : Past) (c2 : BusRow) → IsTidied w k c (point_in w.graph next) w2 k2 c2 → AreTidied v h b all (take (n + 1) all) (drop (n + 1) all) w2 k2 c2
    tidied_next e w2 k2 c2 m = one_done w2 k2 c2 (tidied_on (take n all) (drop (suc n) all) next split_next w k c at_next e w2 k2 c2 m)

  pub all_next : (n : ℕ) → length all ≤ n → (w : MapView) (k : Past) (c : BusRow) → AreTidied v h b all (take n all) (drop n all) w k c → (p : Present) → AreLeft v.graph h p (map (point_in v.graph) all) → IsSidedRun v h b (tidying (drawn_graph v.graph (curves_on h)) p) w k c
  all_next n le w k c t = all_told w k c (drop n all) (subst (λ xs. AreTidied v h b all xs (drop n all) w k c) (take_all n all le) t)
