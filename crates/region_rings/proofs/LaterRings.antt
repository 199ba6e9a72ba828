-- An outer ring no corner of which comes before a vertex is even above the cell on the left of a dart of another ring that goes to the right from the vertex: at the vertex it turns narrow, and nothing of it passes below.
use Rattle.std.proofs.Common.{◌≡◌, ◌≢◌, ℕ, ◌+◌, ◌<◌, Bool, true, false, cond, not, ◌&&◌, arith, refl, sym, ap, ◌∙◌, subst, inl, inr, List, length, map, Less, get_or}
use Rattle.std.specs.Prelude.{◌==◌}
use Rattle.std.specs.List.{Contains, sum_by}
use Rattle.std.proofs.lemmas.Bool.{false≢true, false_from_ne_true, cases_Bool}
use Rattle.exact_plane.specs.Point.{Point}
use Rattle.exact_plane.specs.PointOrder.{point_cmp}
use Rattle.plane_graphs.specs.Graph.{Edge}
use Rattle.slab_laws.specs.Cycles.{dart_labels, darts_on, odd, left_of_dart}
use Rattle.slab_laws.specs.Darts.{Dart, darts, start, source, target, ahead, back, cell_of, cell_by}
use Rattle.slab_laws.specs.Rotation.{same_dart, twin, earlier, next, OutOf}
use Rattle.slab_laws.specs.Rows.{least_dart_of}
use Rattle.slab_laws.specs.Skeleton.{Skeleton, left_of, precedes, same_point, IsPlaneSkeleton}
use Rattle.slab_laws.specs.Slabs.{slab_right, place}
use Rattle.slab_laws.specs.Weights.{Even, weight_above, IsEvenAtVertices}
use Rattle.slab_faces.proofs.CyclesLemmas.{cycle_even, one_cycle}
use Rattle.slab_faces.proofs.NextLemmas.{darts_exact, dart_in, start_in, next_from, next_one}
use Rattle.slab_faces.proofs.Parity.{same_point_is}
use Rattle.slab_faces.proofs.Shift.{tally}
use Rattle.slab_faces.proofs.Sums.{each, sum_by-none, sum_by-same}
use Rattle.face_roots.proofs.InnerCycles.{rises}
use Rattle.rotation_order.proofs.RingTurned.{strict_at, vertex_there}
use Rattle.polygon_sets.specs.Boundaries.{is_inside, bounds_of}
use Rattle.polygon_sets.specs.Regions.{dart_ends}
use Rattle.polygon_sets.proofs.BoundaryNext.{one_face}
use Rattle.polygon_sets.proofs.ClosedRegions.{IsBound}
use Rattle.region_rings.specs.Holes.{corner_in, place_after, ring_of, turns_wide}
use Rattle.region_rings.specs.Rings.{RingTable, AreRingsOf}
use Rattle.region_rings.proofs.CornerWeights.{even_over}
use Rattle.region_rings.proofs.CycleWalks.{walked, on_walk}
use Rattle.region_rings.proofs.LeastCorners.{not_before}
use Rattle.region_rings.proofs.NarrowCorners.{even_after}
use Rattle.region_rings.proofs.RingDarts.{first_dart, first_is, walk_apart, walk_round}
use Rattle.region_rings.proofs.RoundCells.{long, walk_corners}
use Rattle.region_rings.proofs.WideRings.{bound_at, after_within, lower_not, prior, turn_is}

module _ (g : Skeleton) (plane : IsPlaneSkeleton g) (even : IsEvenAtVertices g (λ e. 1)) (ds : List (Point × Point)) (darts_are : ds ≡ map dart_ends (bounds_of g)) (t : RingTable) (rings : AreRingsOf ds t) (r : ℕ) (l : r < length t.ends) where
  abbrev begin : Dart
  begin = first_dart g plane even ds darts_are t rings r l

  abbrev lead : Dart
  lead = least_dart_of g begin

  abbrev ps : List Point
  ps = ring_of t.points t.ends r

  abbrev on : ℕ → Dart
  on i = walked (next (darts g)) begin i

  abbrev is_on : Dart → Bool
  is_on d = same_dart (least_dart_of g d) lead

  goes_on : (d : Dart) → Contains g.edges d.edge → is_on (next (darts g) d) ≡ is_on d
  goes_on d D = ap (λ (x : Dart). same_dart x lead) (sym (one_cycle g d (dart_in g d.edge d.forward D)))

  -- a dart of the cycle is a side of the ring
  met : (d : Dart) → is_on d ≡ true → (i : ℕ) × (i < length ps) × (d ≡ on i)
  met d h =
      let w = on_walk g plane begin (first_is g plane even ds darts_are t rings r l).2.bounds.0 _ (walk_apart g plane even ds darts_are t rings r l) (walk_round g plane even ds darts_are t rings r l) d (darts_exact.path (least_dart_of g d) lead h) in
      (w.0, (let k = long t ds rings r l in let a = w.1 in omega arith), w.2)

  bounds : (d : Dart) → is_on d ≡ true → IsBound g (is_inside g) plane (one_face g plane even) d
  bounds d h = let w = met d h in subst (λ (x : Dart). IsBound g (is_inside g) plane (one_face g plane even) x) (sym w.2) (bound_at g plane even ds darts_are t rings r l w.0 w.1)

  module _ (v : Point) (e : Dart) (E : OutOf g v e) (B : IsBound g (is_inside g) plane (one_face g plane even) e) (ahead_is : e.forward ≡ true) (right : left_of e.edge.low e.edge.high ≡ true) (other : is_on e ≡ false) (outer : get_or t.holes r false ≡ false) (later : (j : ℕ) → j < length ps → point_cmp (corner_in ps j) v ≢ Less) where
    V : Contains g.vertices v
    V = vertex_there g v e plane E

    -- no end of a side comes before v
    end_not : (j : ℕ) → j < length ps → (q : Point) → Contains g.vertices q → corner_in ps j ≡ q → precedes q v ≡ false
    end_not j b q Q c = not_before q v (plane.proper q Q) (plane.proper v V) (λ k. later j b (ap (λ (z : Point). point_cmp z v) c ∙ k))

    low_not : (d : Dart) → is_on d ≡ true → precedes d.edge.low v ≡ false
    low_not d h =
        let w = met d h in
        let c = walk_corners g plane even ds darts_are t rings r l w.0 w.1 in
        let D = (bounds d h).0 in
        lower_not d.edge v d.forward
        (end_not w.0 w.1 (source d) (start_in g d.edge d.forward plane D) (c.0 ∙ ap source (sym w.2)))
        (end_not (place_after ps w.0) (after_within ps w.0 w.1) (target d) (start_in g d.edge (not d.forward) plane D) (c.1 ∙ ap target (sym w.2)))

    no_twin : (d : Dart) → IsBound g (is_inside g) plane (one_face g plane even) d → is_on (twin d) ≡ false
    no_twin d D = false_from_ne_true (is_on (twin d)) (λ h. false≢true (sym D.2 ∙ (bounds (twin d) h).1))

    -- it turns narrow at v
    narrow : (d : Dart) → Contains g.edges d.edge → is_on d ≡ true → target d ≡ v → earlier (twin d) (next (darts g) d) ≡ true
    narrow d D h a =
        let N = next_from g d plane D in
        let m = goes_on d D ∙ h in
        let w = met (next (darts g) d) m in
        let i = w.0 in
        let c = walk_corners g plane even ds darts_are t rings r l i w.1 in
        let at : corner_in ps i ≡ v = c.0 ∙ ap source (sym w.2) ∙ N.at ∙ a in
        let k = prior g plane even ds darts_are t rings r l i w.1 in
        let same : on k.0 ≡ d = next_one g (on k.0) d plane (bound_at g plane even ds darts_are t rings r l k.0 k.1).0 D (k.2 ∙ sym w.2) in
        let wide : turns_wide ps i ≡ false = false_from_ne_true (turns_wide ps i) (λ y. false≢true (sym outer ∙ (rings.holes.each r l).1 (record {
          at = i;
          within = w.1;
          least = λ j b q. later j b (ap (λ (z : Point). point_cmp (corner_in ps j) z) (sym at) ∙ q);
          wide = y;
        }))) in
        let back : earlier (next (darts g) d) (twin d) ≡ false = (λ n. earlier (w.2 n) (twin (sym same n))) ∙ turn_is g plane even ds darts_are t rings r l i w.1 ∙ wide in
        let X : OutOf g v (twin d) = record { in' = D; at = a } in
        let Y : OutOf g v (next (darts g) d) = record { in' = N.in'; at = N.at ∙ a } in
        elim (cases_Bool (earlier (twin d) (next (darts g) d))) [
          | inl y ↦ y
          | inr n ↦ absurd (let q = (strict_at g v (twin d) plane X).total (twin d) (next (darts g) d) X Y n back in false≢true (sym (no_twin d (bounds d h)) ∙ ap is_on q ∙ m))
        ]

    abbrev m : Edge → ℕ
    m = darts_on (dart_labels (darts g)) lead

    weighs : (f : Edge) → m f ≡ tally (is_on (ahead f)) + tally (is_on (back f))
    unfolding darts_on
    weighs f = refl

    e_is : ahead e.edge ≡ e
    e_is = (λ i. record { edge = e.edge; forward = sym ahead_is i })

    other_way : is_on (back e.edge) ≡ false
    other_way = (λ i. is_on (record { edge = e.edge; forward = not (sym ahead_is i) })) ∙ no_twin e B

    own : m e.edge ≡ 0
    own =
        let w = weighs e.edge in
        let a : tally (is_on (ahead e.edge)) ≡ 0 = ap tally (ap is_on e_is ∙ other) in
        let b : tally (is_on (back e.edge)) ≡ 0 = ap tally other_way in
        omega arith

    late : (f : Edge) → Contains g.edges f → (m f ≡ 0 → ⊥) → precedes f.low v ≡ false
    late f F some = elim (cases_Bool (is_on (ahead f))) [
      | inl y ↦ low_not (ahead f) y
      | inr n ↦ elim (cases_Bool (is_on (back f))) [
        | inl y ↦ low_not (back f) y
        | inr k ↦ absurd (some (let w = weighs f in let a : tally (is_on (ahead f)) ≡ 0 = ap tally n in let b : tally (is_on (back f)) ≡ 0 = ap tally k in omega arith))
      ]
    ]

    none_down : (f : Edge) → Contains g.edges f → (b : Bool) → same_point f.high v ≡ b → cond (b && earlier e (back f)) (tally (is_on (ahead f)) + tally (is_on (back f))) 0 ≡ 0
    none_down f F false q = refl
    none_down f F true q =
        let high = same_point_is f.high v q in
        let rises : precedes f.low v ≡ true = subst (λ (z : Point). precedes f.low z ≡ true) high (rises g plane f F) in
        let a : tally (is_on (ahead f)) ≡ 0 = ap tally (false_from_ne_true (is_on (ahead f)) (λ y. false≢true (sym (low_not (ahead f) y) ∙ rises))) in
        let b : tally (is_on (back f)) ≡ 0 = ap tally (false_from_ne_true (is_on (back f)) (λ y. false≢true (sym (low_not (back f) y) ∙ rises))) in
        nothing (earlier e (back f)) (tally (is_on (ahead f)) + tally (is_on (back f))) (omega arith)
      where
        nothing : (b : Bool) (n : ℕ) → n ≡ 0 → cond b n 0 ≡ 0
        nothing true n z = z
        nothing false n z = refl

    e_no_twin : is_on (twin e) ≡ false
    e_no_twin = no_twin e B

    same_sums : sum_by (λ f. cond (same_point f.low v && earlier e (ahead f)) (tally (is_on (ahead f)) + tally (is_on (back f))) 0) g.edges ≡ sum_by (λ f. cond (same_point f.low v && earlier (ahead e.edge) (ahead f)) (m f) 0) g.edges
    unfolding darts_on
    same_sums = ap (λ (x : Dart). sum_by (λ f. cond (same_point f.low v && earlier x (ahead f)) (tally (is_on (ahead f)) + tally (is_on (back f))) 0) g.edges) (sym e_is)

    cell : left_of_dart g e ≡ record { slab = slab_right g v; place = place g (slab_right g v) e.edge + 1 }
    cell =
        (λ i. cell_of g e.edge (ahead_is i))
        ∙ (λ i. cell_by g e.edge (right i) true)
        ∙ (λ i. record { slab = slab_right g (begins i); place = place g (slab_right g (begins i)) e.edge + 1 })
      where
        begins : e.edge.low ≡ v
        begins = subst (λ (f : Bool). start e.edge f ≡ v) ahead_is E.at

    even_left : Even (weight_above g m (left_of_dart g e).slab (left_of_dart g e).place)
    even_left =
        let x = even_after g plane is_on goes_on v e E e_no_twin narrow in
        let high : sum_by (λ f. cond (same_point f.high v && earlier e (back f)) (tally (is_on (ahead f)) + tally (is_on (back f))) 0) g.edges ≡ 0 =
        sum_by-same (λ f. cond (same_point f.high v && earlier e (back f)) (tally (is_on (ahead f)) + tally (is_on (back f))) 0) (λ (f : Edge). 0) g.edges (each (λ f. cond (same_point f.high v && earlier e (back f)) (tally (is_on (ahead f)) + tally (is_on (back f))) 0 ≡ 0) g.edges (λ f F. none_down f F (same_point f.high v) refl)) ∙ sum_by-none g.edges in
        let s = same_sums in
        let y = even_over g plane v V e.edge B.0 (subst (λ (f : Bool). start e.edge f ≡ v) ahead_is E.at) right m own late (cycle_even g lead plane) in
        subst (λ c. Even (weight_above g m c.slab c.place)) (sym cell) (omega arith)

    pub not_over : odd g (dart_labels (darts g)) (least_dart_of g (first_dart g plane even ds darts_are t rings r l)) (left_of_dart g e) ≡ false
    unfolding odd
    not_over = ap (λ n. n == 1) even_left
