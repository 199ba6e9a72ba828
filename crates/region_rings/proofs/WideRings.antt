-- A ring that turns wide at its least corner has the cell at the corner's lower right on its left, and none of its sides passes below the corner: so its cycle is no outer one.
use Rattle.std.proofs.Common.{◌≡◌, ℕ, zero, suc, ◌+◌, ◌-◌, ◌<◌, Bool, true, false, not, cond, arith, refl, sym, ap, ◌∙◌, subst, inl, inr, List, length, map}
use Rattle.std.specs.Prelude.{◌%◌, ◌==◌}
use Rattle.std.specs.List.{Contains, range_with_len}
use Rattle.std.proofs.lemmas.Bool.{cases_lt, eqb-false}
use Rattle.integers.proofs.Tests.{other_number, same_number}
use Rattle.exact_plane.specs.Point.{Point}
use Rattle.exact_plane.specs.PointOrder.{point_cmp}
use Rattle.plane_graphs.specs.Graph.{Edge}
use Rattle.plane_graphs.proofs.Ascending.{to_member}
use Rattle.slab_laws.specs.Cycles.{left_of_dart}
use Rattle.slab_laws.specs.Darts.{Dart, darts, start, source, target}
use Rattle.slab_laws.specs.Rotation.{twin, earlier, ring, after, next, OutOf}
use Rattle.slab_laws.specs.Rows.{least_dart_of}
use Rattle.slab_laws.specs.Skeleton.{Skeleton, HasWeight, precedes, IsPlaneSkeleton}
use Rattle.slab_laws.specs.Slabs.{right_bottom}
use Rattle.slab_laws.specs.Weights.{IsEvenAtVertices}
use Rattle.slab_faces.proofs.EveryFace.{none_counted}
use Rattle.slab_faces.proofs.NextLemmas.{start_in, next_from}
use Rattle.rotation_order.specs.EdgeParts.{IsForwardEdge}
use Rattle.rotation_order.proofs.RingTurned.{next_at}
use Rattle.sound_views.proofs.RoundTurned.{twin_twice}
use Rattle.dart_orbits.proofs.Ranges.{in_range}
use Rattle.polygon_sets.specs.Boundaries.{is_inside, bounds_of}
use Rattle.polygon_sets.specs.ClosedBorders.{way_before}
use Rattle.polygon_sets.specs.Regions.{dart_ends}
use Rattle.polygon_sets.proofs.BoundaryNext.{one_face}
use Rattle.polygon_sets.proofs.ClosedRegions.{IsBound}
use Rattle.polygon_sets.proofs.WaysRound.{way_order}
use Rattle.region_rings.specs.Cycles.{ring_start, ring_end}
use Rattle.region_rings.specs.Holes.{corner_in, place_before, place_after, ring_of, turns_wide, IsLeastAt}
use Rattle.region_rings.specs.Nesting.{passes_below, side_below, goes_round}
use Rattle.region_rings.specs.Rings.{RingTable, AreRingsOf}
use Rattle.region_rings.proofs.CycleWalks.{walked, walked_on, walked_none, same_lead}
use Rattle.region_rings.proofs.LeastCorners.{not_before, none_below}
use Rattle.region_rings.proofs.RingDarts.{first_dart, first_is, walk_side, walk_round}
use Rattle.region_rings.proofs.RoundCells.{long, walk_corners}
use Rattle.region_rings.proofs.SidesBelow.{passes_is}
use Rattle.region_rings.proofs.WideCorners.{on_left_below}

pub after_within : (ps : List Point) (i : ℕ) → i < length ps → place_after ps i < length ps
after_within ps i l = by (i + 1 == length ps) refl
  where
    by : (b : Bool) → (i + 1 == length ps) ≡ b → cond b 0 (i + 1) < length ps
    by true e = omega arith
    by false e = let n = eqb-false (i + 1) (length ps) e in elim (cases_lt (i + 1) (length ps)) [
      | inl k ↦ k
      | inr k ↦ absurd (n (omega arith))
    ]

-- the lower end is one of both
pub lower_not : (e : Edge) (p : Point) (f : Bool) → precedes (start e f) p ≡ false → precedes (start e (not f)) p ≡ false → precedes e.low p ≡ false
lower_not e p true h k = h
lower_not e p false h k = k

module _ (g : Skeleton) (plane : IsPlaneSkeleton g) (even : IsEvenAtVertices g (λ e. 1)) (ds : List (Point × Point)) (darts_are : ds ≡ map dart_ends (bounds_of g)) (t : RingTable) (rings : AreRingsOf ds t) (r : ℕ) (l : r < length t.ends) where
  abbrev begin : Dart
  begin = first_dart g plane even ds darts_are t rings r l

  abbrev on : ℕ → Dart
  on i = walked (next (darts g)) begin i

  abbrev ps : List Point
  ps = ring_of t.points t.ends r

  -- the cell at the lower right of p is on the left of a dart of the ring
  pub record IsWide (p : Point) : Type 0 where
    pub corner : Contains g.vertices p
    pub dart : Dart
    pub bounds : IsBound g (is_inside g) plane (one_face g plane even) dart
    pub lead : least_dart_of g dart ≡ least_dart_of g (first_dart g plane even ds darts_are t rings r l)
    pub cell : left_of_dart g dart ≡ right_bottom g p

  pub bound_at : (i : ℕ) → i < length (ring_of t.points t.ends r) → IsBound g (is_inside g) plane (one_face g plane even) (walked (next (darts g)) (first_dart g plane even ds darts_are t rings r l) i)
  bound_at i a = let b = rings.cut.some r l in let k = long t ds rings r l in (walk_side g plane even ds darts_are t rings r l i (omega arith)).2.bounds

  corners : (i : ℕ) → i < length ps → (corner_in ps i ≡ source (on i)) × (corner_in ps (place_after ps i) ≡ target (on i))
  corners i a = walk_corners g plane even ds darts_are t rings r l i a

  weighs : (d : Dart) (f : Bool) → Contains g.edges d.edge → HasWeight (start d.edge f)
  weighs d f E = plane.proper (start d.edge f) (start_in g d.edge f plane E)

  -- the corner before
  pub prior : (i : ℕ) → i < length (ring_of t.points t.ends r) → (c : ℕ) × (c < length (ring_of t.points t.ends r)) × (next (darts g) (walked (next (darts g)) (first_dart g plane even ds darts_are t rings r l) c) ≡ walked (next (darts g)) (first_dart g plane even ds darts_are t rings r l) i) × (place_before (ring_of t.points t.ends r) i ≡ c)
  prior zero a =
      let b = rings.cut.some r l in
      let k = long t ds rings r l in
      let n = ring_end t.ends r - ring_start t.ends r - 1 in
      let q : length ps - 1 ≡ n = omega arith in
      (n, omega arith, walk_round g plane even ds darts_are t rings r l ∙ sym (walked_none (next (darts g)) begin), ap (λ x. cond {A = ℕ} x (length ps - 1) (0 - 1)) (same_number 0) ∙ q)
  prior (suc i) a =
      let q : suc i - 1 ≡ i = omega arith in
      (i, omega arith, sym (walked_on (next (darts g)) begin i), ap (λ x. cond {A = ℕ} x (length ps - 1) (suc i - 1)) (other_number (suc i) 0 (λ e. absurd (omega arith))) ∙ q)

  bare_edge : (e : Edge) → Contains g.edges e → IsForwardEdge e
  bare_edge e E = let W = plane.proper_edge e E in record { low_weight = W.0; high_weight = W.1; forward = plane.forward e E; upright = plane.upright e E }

  -- ---- at a corner, from the dart before it
  module _ (i : ℕ) (a : i < length (ring_of t.points t.ends r)) where
    abbrev came : Dart
    came = walked (next (darts g)) (first_dart g plane even ds darts_are t rings r l) (prior i a).0

    back_in : Contains g.edges came.edge
    back_in = (bound_at (prior i a).0 (prior i a).1).0

    pub goes_from : OutOf g (corner_in (ring_of t.points t.ends r) i) (walked (next (darts g)) (first_dart g plane even ds darts_are t rings r l) i)
    goes_from = record { in' = (bound_at i a).0; at = sym (corners i a).0 }

    pub came_from : OutOf g (corner_in (ring_of t.points t.ends r) i) (twin (walked (next (darts g)) (first_dart g plane even ds darts_are t rings r l) (prior i a).0))
    came_from = record { in' = back_in; at = sym (next_from g came plane back_in).at ∙ ap source (prior i a).2 ∙ sym (corners i a).0 }

    way_back : target (twin came) ≡ corner_in ps (place_before ps i)
    way_back = ap source (twin_twice came) ∙ sym (corners (prior i a).0 (prior i a).1).0 ∙ sym (ap (corner_in ps) (prior i a).3)

    pub turn_is : earlier (walked (next (darts g)) (first_dart g plane even ds darts_are t rings r l) i) (twin (walked (next (darts g)) (first_dart g plane even ds darts_are t rings r l) (prior i a).0)) ≡ turns_wide (ring_of t.points t.ends r) i
    turn_is =
        way_order (on i) (twin came) (bare_edge (on i).edge goes_from.in') (bare_edge came.edge back_in) (corner_in ps i) goes_from.at came_from.at
        ∙ (λ k. way_before (corner_in ps i) (sym (corners i a).1 k) (way_back k))

  -- ---- at a least corner
  module _ (i : ℕ) (a : i < length ps) (least : IsLeastAt ps i) where
    abbrev p : Point
    p = corner_in ps i

    vertex : Contains g.vertices (corner_in ps i)
    vertex = subst (Contains g.vertices) (sym (corners i a).0) (start_in g (on i).edge (on i).forward plane (bound_at i a).0)

    no_less : (j : ℕ) → j < length ps → (q : Point) → HasWeight q → corner_in ps j ≡ q → precedes q (corner_in ps i) ≡ false
    no_less j b q Q e = not_before q (corner_in ps i) Q (plane.proper (corner_in ps i) vertex) (λ k. least j b (ap (λ (z : Point). point_cmp z (corner_in ps i)) e ∙ k))

    -- no side passes below it
    side_not : (j : ℕ) → j < length ps → side_below ps (corner_in ps i) j ≡ false
    side_not j b =
        let d = on j in
        let E = (bound_at j b).0 in
        let w = corners j b in
        let e = plane.proper_edge d.edge E in
        let v = plane.proper (corner_in ps i) vertex in
        let s = no_less j b (source d) (weighs d d.forward E) w.0 in
        let u = no_less (place_after ps j) (after_within ps j b) (target d) (weighs d (not d.forward) E) w.1 in
        (λ k. passes_below (corner_in ps i) (w.0 k) (w.1 k))
        ∙ passes_is (corner_in ps i) d.edge v e.0 e.1 (plane.forward d.edge E) d.forward
        ∙ none_below d.edge (corner_in ps i) v e.0 e.1 (lower_not d.edge (corner_in ps i) d.forward s u)

    pub not_round : goes_round (ring_of t.points t.ends r) (corner_in (ring_of t.points t.ends r) i) ≡ false
    not_round =
        ap (λ n. n % 2 == 1) (none_counted (side_below ps (corner_in ps i)) (range_with_len 0 (length ps)) (λ j J. side_not j (in_range (length ps) j (to_member (range_with_len 0 (length ps)) j J))))

    -- neither neighbour comes before it
    pub before_not : precedes (target (twin (walked (next (darts g)) (first_dart g plane even ds darts_are t rings r l) (prior i a).0))) (corner_in (ring_of t.points t.ends r) i) ≡ false
    before_not = no_less (prior i a).0 (prior i a).1 (target (twin (came i a))) (weighs (came i a) (not (not (came i a).forward)) (back_in i a)) (ap (corner_in ps) (sym (prior i a).3) ∙ sym (way_back i a))

    pub after_not : precedes (target (walked (next (darts g)) (first_dart g plane even ds darts_are t rings r l) i)) (corner_in (ring_of t.points t.ends r) i) ≡ false
    after_not = no_less (place_after ps i) (after_within ps i a) (target (on i)) (weighs (on i) (not (on i).forward) (goes_from i a).in') (corners i a).1

    -- where it turns wide
    module _ (wide : turns_wide (ring_of t.points t.ends r) i ≡ true) where
      abbrev before : Dart
      before = came i a

      follows : on i ≡ after (twin before) (ring (darts g) (corner_in ps i))
      follows = sym (prior i a).2 ∙ ap (next (darts g)) (sym (twin_twice before)) ∙ next_at g (corner_in ps i) (twin before) (came_from i a)

      pub is_wide : IsWide (corner_in (ring_of t.points t.ends r) i)
      is_wide = record {
        corner = vertex;
        dart = before;
        bounds = bound_at (prior i a).0 (prior i a).1;
        lead = same_lead g plane begin (first_is g plane even ds darts_are t rings r l).2.bounds.0 (prior i a).0;
        cell = ap (left_of_dart g) (sym (twin_twice before)) ∙ on_left_below g plane (corner_in ps i) (twin before) (on i) (came_from i a) (goes_from i a) follows (turn_is i a ∙ wide) before_not after_not;
      }
