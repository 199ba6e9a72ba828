-- Going once round a vertex: the curves that were met, and that they are those of the graph's edges there.
use Rattle.std.proofs.Common.{◌≡◌, ◌≢◌, ℕ, Bool, true, refl, sym, ap, ap₂, ◌∙◌, subst, inl, inr, List, [], ◌++◌, map, nat_cmp}
use Rattle.std.specs.Prelude.{not, ◌||◌}
use Rattle.std.specs.List.{filter}
use Rattle.std.proofs.lemmas.Bool.{or_cases}
use Rattle.std.proofs.lemmas.Cmp.{nat_cmp_total}
use Rattle.std.proofs.lemmas.List.{map-append}
use Rattle.integers.proofs.Tests.{nat_exact}
use Rattle.exact_plane.specs.Point.{Point}
use Rattle.plane_graphs.specs.Ascending.{ascending, IsAscending, Member}
use Rattle.plane_graphs.specs.Graph.{Graph, Mark, mark, curves}
use Rattle.plane_graphs.proofs.Ascending.{ascending_unique, IsAscending-ascending}
use Rattle.plane_graphs.proofs.Lists.{decide, or_left, or_right, in_left, in_right, in_either, in_map, of_map, in_filter, of_filter, in_ascending, of_ascending}
use Rattle.slab_laws.specs.declared.names.CurveId.{CurveId}
use Rattle.slab_laws.specs.declared.names.DartId.{DartId}
use Rattle.slab_laws.specs.declared.names.VertexId.{VertexId}
use Rattle.slab_laws.specs.Rotation.{earlier}
use Rattle.slab_laws.specs.Skeleton.{same_point}
use Rattle.slab_laws.specs.Sound.{IsGraphSound, dart_in, edge_in}
use Rattle.slab_laws.specs.View.{View, HasVertex, HasDart, IsOutOf, point_in, source_in, target_in, twin_in}
use Rattle.slab_faces.proofs.Parity.{same_point_is, same_point_refl}
use Rattle.arr_notes.specs.AfterAround.{after_in}
use Rattle.arr_notes.specs.Curves.{Curves, is_forward, IsForward, AreCurvesOf}
use Rattle.arr_notes.specs.CurvedView.{AreListsOf}
use Rattle.arr_notes.specs.RecordGraph.{drawn_graph}
use Rattle.arr_notes.proofs.Names.{cases_dart}
use Rattle.sound_views.specs.RecordGraphLaws.{IsMarkOf}
use Rattle.sound_views.proofs.DartCurves.{curves_of_darts}
use Rattle.sound_views.proofs.GraphDrawn.{between_forward, twins_are_directed}
use Rattle.sound_views.proofs.GraphHolds.{graphs_hold}
use Rattle.rotation_order.specs.RingOrder.{sooner_by}
use Rattle.rotation_order.proofs.Circuits.{after_out, first_met, last_met, none_between}
use Rattle.envelope_laws.specs.EnvelopeText.{curves_at}
use Rattle.lower_envelope.specs.Texts.{IsCurveOut, AreCurvesRound}

-- the numbers of curves
abbrev pub numbers : List CurveId → List ℕ
numbers cs = map (λ c. c.0) cs

module _ (v : View) (k : DartId → List CurveId) where
  -- the curves of the dart are among those that were met, and it has the same ones as its twin
  pub record IsMet (d : DartId) (cs : List CurveId) : Type 0 where
    pub curves : (n : ℕ) → Member n (map (λ c. c.0) (k d)) → Member n (map (λ c. c.0) cs)
    pub twins : k (twin_in v d) ≡ k d

  -- clockwise from just after `first`, x is come to; these are the curves of the darts before it
  pub record IsRoundSoFar (first x : DartId) (cs : List CurveId) : Type 0 where
    pub out : IsOutOf v (source_in v first) x
    pub just : (n : ℕ) → Member n (map (λ c. c.0) cs) → IsCurveOut v k (source_in v first) n
    pub met : (d : DartId) → IsOutOf v (source_in v first) d → sooner_by earlier (dart_in v first) (dart_in v d) (dart_in v x) ≡ true → IsMet d cs

  -- ---- one more dart
  module _ (cs : List CurveId) (x : DartId) (twins : k (twin_in v x) ≡ k x) where
    joined : numbers (cs ++ k x) ≡ numbers cs ++ numbers (k x)
    joined = map-append (λ (c : CurveId). c.0) cs (k x)

    among : (n : ℕ) → Member n (numbers cs ++ numbers (k x)) → Member n (numbers (cs ++ k x))
    among n m = subst (λ (ns : List ℕ). Member n ns) (sym joined) m

    now_met : IsMet x (cs ++ k x)
    now_met = record { curves = λ n m. among n (in_right n (numbers cs) (numbers (k x)) m); twins = twins }

    still_met : (d : DartId) → IsMet d cs → IsMet d (cs ++ k x)
    still_met d i = record { curves = λ n m. among n (in_left n (numbers cs) (numbers (k x)) (i.curves n m)); twins = i.twins }

    one_met : (d : DartId) → d ≡ x → IsMet d (cs ++ k x)
    one_met d e = subst (λ (z : DartId). IsMet z (cs ++ k x)) (sym e) now_met

    of_both : (u : VertexId) → IsOutOf v u x → ((n : ℕ) → Member n (numbers cs) → IsCurveOut v k u n) → (n : ℕ) → Member n (numbers (cs ++ k x)) → IsCurveOut v k u n
    of_both u o f n m = elim (in_either n (numbers cs) (numbers (k x)) (subst (λ (ns : List ℕ). Member n ns) joined m)) [ inl a ↦ f n a | inr b ↦ (x, o, b) ]

  module _ (s : IsGraphSound v) (first : DartId) (has : HasDart v first) where
    pub round_begins : IsRoundSoFar first (after_in v first) []
    round_begins = record {
      out = after_out v s first has first (has, refl);
      just = λ n m. absurd m;
      met = λ d o h. absurd (first_met v s first has d o h);
    }

    module _ (x : DartId) (cs : List CurveId) (i : IsRoundSoFar first x cs) (twins : k (twin_in v x) ≡ k x) where
      pub round_goes_on : x ≢ first → IsRoundSoFar first (after_in v x) (cs ++ k x)
      round_goes_on other = record {
        out = after_out v s first has x i.out;
        just = of_both cs x twins (source_in v first) i.out i.just;
        met = λ d o h. elim (cases_dart d x) [
          | inl e ↦ one_met cs x twins d e
          | inr ne ↦ still_met cs x twins d (i.met d o (none_between v s first has x i.out other d o ne h))
        ];
      }

      all_met : x ≡ first → (d : DartId) → IsOutOf v (source_in v first) d → IsMet d (cs ++ k x)
      all_met back d o = elim (cases_dart d x) [
        | inl e ↦ one_met cs x twins d e
        | inr ne ↦
            still_met cs x twins d (i.met d o (subst (λ (z : DartId). sooner_by earlier (dart_in v first) (dart_in v d) (dart_in v z) ≡ true) (sym back)
            (last_met v s first has d o (λ e. ne (e ∙ sym back)))))
      ]

      -- the round ends with the first dart
      pub round_ends : x ≡ first → (u : VertexId) → source_in v first ≡ u → AreCurvesRound v k u (cs ++ k x)
      round_ends back u at = subst (λ (w : VertexId). AreCurvesRound v k w (cs ++ k x)) at (record {
        just = λ n. (of_both cs x twins (source_in v first) i.out i.just n, λ o. (all_met back o.0 o.1).curves n o.2);
        twins = λ d o. (all_met back d o).twins;
      })

  -- no dart leaves the vertex
  pub none_round : (u : VertexId) (cs : List CurveId) → cs ≡ [] → ((d : DartId) → ¬ IsOutOf v u d) → AreCurvesRound v k u cs
  none_round u cs e none = record {
    just = λ n. (λ m. absurd (subst (λ (xs : List CurveId). Member n (numbers xs)) e m), λ o. absurd (none o.0 o.1));
    twins = λ d o. absurd (none d o);
  }

-- ---- the graph that is drawn
-- the mark's edge ends at the point
abbrev ends_at : Point → Mark → Bool
ends_at p m = same_point m.low p || same_point m.high p

module _ (v : View) (k : DartId → List CurveId) (s : IsGraphSound v) (h : Curves) (lists : AreListsOf v h k) (u : VertexId) (has : HasVertex v u) (cs : List CurveId) (round : AreCurvesRound v k u cs) where
  abbrev g : Graph
  g = drawn_graph v h

  abbrev p : Point
  p = point_in v u

  -- the vertex with the point is u
  only : (w : VertexId) → HasVertex v w → (q : Point) → point_in v w ≡ q → same_point q p ≡ true → w ≡ u
  only w W q at e = s.drawn.points w u W has (at ∙ same_point_is q p e)

  at_point : (w : VertexId) → w ≡ u → same_point (point_in v w) p ≡ true
  at_point w e = subst (λ (z : VertexId). same_point (point_in v z) p ≡ true) (sym e) (same_point_refl p)

  -- a curve along the edge of a forward dart that ends there is one of the graph
  of_forward : (n : ℕ) (d : DartId) → IsForward v d → ends_at p (mark (point_in v (source_in v d)) (point_in v (target_in v d)) n) ≡ true → Member n (numbers (k d)) → Member n (curves_at g p)
  unfolding curves_at
  of_forward n d f e m =
      let t : Mark = mark (point_in v (source_in v d)) (point_in v (target_in v d)) n in
      let held : Member t g.marks = ((graphs_hold v h s).marks t).1 (d, record { forward = f; low = refl; high = refl; curve = subst (λ (ns : List ℕ). Member n ns) (lists d f) m }) in
      in_ascending nat_cmp nat_cmp_total nat_exact n (map (λ t. t.curve) (filter (ends_at p) g.marks)) (in_map (λ t. t.curve) t (filter (ends_at p) g.marks) (in_filter (ends_at p) t g.marks held e))

  -- so is one along the edge of a dart out of the vertex: the dart is forward, or its twin is
  of_out : (n : ℕ) → IsCurveOut v k u n → Member n (curves_at g p)
  of_out n o =
      let d : DartId = o.0 in
      let there : HasDart v d = o.1.0 in
      elim (decide (is_forward v d)) [
        | inl f ↦ of_forward n d (there, f) (or_left (same_point (point_in v (source_in v d)) p) (same_point (point_in v (target_in v d)) p) (at_point (source_in v d) o.1.1)) o.2
        | inr b ↦ (
            let e : DartId = twin_in v d in
            let back : target_in v e ≡ u = ap (source_in v) (s.twinned.back d there) ∙ o.1.1 in
            of_forward n e (s.twinned.has d there, twins_are_directed v s d there ∙ ap not b) (or_right (same_point (point_in v (source_in v e)) p) (same_point (point_in v (target_in v e)) p) (at_point (target_in v e) back))
            (subst (λ (cs : List CurveId). Member n (numbers cs)) (sym (round.twins d o.1)) o.2)
            )
      ]

  -- and those are all
  out_of_mark : (n : ℕ) (t : Mark) → n ≡ t.curve → ends_at p t ≡ true → (d : DartId) → IsMarkOf v h t d → IsCurveOut v k u n
  out_of_mark n t e at d i =
      let there : HasDart v d = i.forward.0 in
      let other : DartId = twin_in v d in
      let listed : Member n (numbers (k d)) = subst (λ (c : ℕ). Member c (numbers (k d))) (sym e) (subst (λ (ns : List ℕ). Member t.curve ns) (sym (lists d i.forward)) i.curve) in
      elim (or_cases (same_point t.low p) (same_point t.high p) at) [
        | inl a ↦ (d, (there, only (source_in v d) (s.linked.source d there) t.low i.low a), listed)
        | inr a ↦ (
            let out : IsOutOf v u other = (s.twinned.has d there, only (target_in v d) (s.linked.source other (s.twinned.has d there)) t.high i.high a) in
            let same : k d ≡ k other = ap k (sym (s.twinned.back d there)) ∙ round.twins other out in
            (other, out, subst (λ (cs : List CurveId). Member n (numbers cs)) same listed)
            )
      ]

  out_of_graph : (n : ℕ) → Member n (curves_at g p) → IsCurveOut v k u n
  unfolding curves_at
  out_of_graph n m =
      let t = of_map (λ (t : Mark). t.curve) n (filter (ends_at p) g.marks) (of_ascending nat_cmp nat_cmp_total nat_exact n (map (λ (t : Mark). t.curve) (filter (ends_at p) g.marks)) m) in
      let f = of_filter (ends_at p) t.0 g.marks t.1 in
      let d = ((graphs_hold v h s).marks t.0).0 f.0 in
      out_of_mark n t.0 t.2 f.1 d.0 d.1

  curves_ascend : IsAscending nat_cmp (curves_at g p)
  unfolding curves_at
  curves_ascend = IsAscending-ascending nat_cmp nat_cmp_total (map (λ (t : Mark). t.curve) (filter (ends_at p) g.marks))

  -- in order, the curves that were met are those of all edges that end there
  pub curves_there : ascending nat_cmp (numbers cs) ≡ curves_at g p
  curves_there =
      ascending_unique nat_cmp nat_cmp_total (ascending nat_cmp (numbers cs)) (curves_at g p)
      (IsAscending-ascending nat_cmp nat_cmp_total (numbers cs)) curves_ascend
      (λ n m. of_out n ((round.just n).0 (of_ascending nat_cmp nat_cmp_total nat_exact n (numbers cs) m)))
      (λ n m. in_ascending nat_cmp nat_cmp_total nat_exact n (numbers cs) ((round.just n).1 (out_of_graph n m)))

-- ---- the edge of a forward dart
module _ (v : View) (d : DartId) (f : IsForward v d) (p q : Point) (low : p ≡ point_in v (source_in v d)) (high : q ≡ point_in v (target_in v d)) where
  pub edge_ends : edge_in v d ≡ record { low = p; high = q }
  edge_ends = between_forward (point_in v (source_in v d)) (point_in v (target_in v d)) f.1 ∙ (λ i. record { low = sym low i; high = sym high i })

pub edge_curves : (v : View) (k : DartId → List CurveId) → IsGraphSound v → (h : Curves) → AreCurvesOf v h → AreListsOf v h k → (d : DartId) → IsForward v d → (p q : Point) → p ≡ point_in v (source_in v d) → q ≡ point_in v (target_in v d) → numbers (k d) ≡ curves (drawn_graph v h) p q
edge_curves v k s h a lists d f p q low high = lists d f ∙ sym (curves_of_darts v h d s a f) ∙ ap₂ (curves (drawn_graph v h)) (sym low) (sym high)
