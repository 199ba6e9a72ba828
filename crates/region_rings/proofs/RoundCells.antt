-- A ring goes round a vertex exactly where the cycle of its darts is odd above the cell at the vertex's lower right corner.
use Rattle.std.proofs.Common.{◌≡◌, ℕ, ◌+◌, ◌-◌, ◌<◌, Bool, true, false, cond, ◌&&◌, arith, refl, sym, ap, ◌∙◌, List, length, map, drop, eq-eqb}
use Rattle.std.specs.Prelude.{◌%◌, ◌==◌}
use Rattle.std.specs.List.{Contains, sum_by, count_by, range_with_len}
use Rattle.std.proofs.lemmas.Bool.{eqb-true, false≢true}
use Rattle.std.proofs.lemmas.List.{length-drop, length-take-le, get_or-take, get_or-drop}
use Rattle.exact_plane.specs.Point.{Point}
use Rattle.plane_graphs.specs.Graph.{Edge}
use Rattle.plane_graphs.proofs.Ascending.{to_member}
use Rattle.slab_laws.specs.Cycles.{dart_labels, darts_on, odd}
use Rattle.slab_laws.specs.Darts.{Dart, darts, source, target}
use Rattle.slab_laws.specs.Rotation.{next}
use Rattle.slab_laws.specs.Rows.{least_dart_of}
use Rattle.slab_laws.specs.Skeleton.{Skeleton, under, IsPlaneSkeleton}
use Rattle.slab_laws.specs.Slabs.{slab_right, reaches_right, right_below, right_bottom}
use Rattle.slab_laws.specs.Weights.{Even, weight_above, IsEvenAtVertices}
use Rattle.slab_faces.proofs.CyclesLemmas.{cycle_even}
use Rattle.slab_faces.proofs.Shift.{sum_by-map, tally}
use Rattle.slab_faces.proofs.Sums.{each, sum_by-same}
use Rattle.dart_orbits.proofs.Ranges.{in_range}
use Rattle.polygon_sets.specs.Boundaries.{bounds_of}
use Rattle.polygon_sets.specs.ClosedBorders.{no_point}
use Rattle.polygon_sets.specs.Regions.{dart_ends}
use Rattle.region_rings.specs.Cycles.{ring_start, ring_end, IsAfter, along, back}
use Rattle.region_rings.specs.Holes.{corner_in, place_after, ring_of}
use Rattle.region_rings.specs.Nesting.{passes_below, side_below, goes_round}
use Rattle.region_rings.specs.Rings.{RingTable, AreRingsOf}
use Rattle.region_rings.proofs.BelowVertices.{even_below}
use Rattle.region_rings.proofs.CycleWalks.{walked, cycle_sum, by_edges}
use Rattle.region_rings.proofs.RingDarts.{first_dart, first_is, walk_side, walk_apart, walk_round}
use Rattle.region_rings.proofs.RingsCut.{ends_within}
use Rattle.region_rings.proofs.SidesBelow.{passes_is}
use Rattle.slab_faces.proofs.OddSums.{odd_alike}

-- ---- the corners of a ring among those of all
module _ (t : RingTable) (ds : List (Point × Point)) (rings : AreRingsOf ds t) (r : ℕ) (l : r < length t.ends) where
  abbrev ps : List Point
  ps = ring_of t.points t.ends r

  abbrev s : ℕ
  s = ring_start t.ends r

  pub long : length (ring_of t.points t.ends r) ≡ ring_end t.ends r - ring_start t.ends r - 1 + 1
  long =
      let b = rings.cut.some r l in
      let w = ends_within (length t.points) t.ends rings.cut r l in
      let d = length-drop s t.points in
      let k = length-take-le (ring_end t.ends r - s) (drop s t.points) (omega arith) in
      k ∙ (omega arith)

  pub corner_is : (i : ℕ) → i < length (ring_of t.points t.ends r) → corner_in (ring_of t.points t.ends r) i ≡ corner_in t.points (ring_start t.ends r + i)
  corner_is i a = let n = long in let b = rings.cut.some r l in get_or-take (ring_end t.ends r - s) (drop s t.points) i no_point (omega arith) ∙ get_or-drop s t.points i no_point

  by_last : (i : ℕ) → i < length (ring_of t.points t.ends r) → (j : ℕ) → IsAfter t.ends r (ring_start t.ends r + i) j → (b : Bool) → (i + 1 == length (ring_of t.points t.ends r)) ≡ b → corner_in (ring_of t.points t.ends r) (cond b 0 (i + 1)) ≡ corner_in t.points j
  by_last i a j (along x y z w) true e = let q = eqb-true (i + 1) (length ps) e in let n = long in absurd (omega arith)
  by_last i a j (back x y z w) true e = corner_is 0 (omega arith) ∙ ap (corner_in t.points) (omega arith)
  by_last i a j (along x y z w) false e = let n = long in let b = rings.cut.some r l in corner_is (i + 1) (omega arith) ∙ ap (corner_in t.points) (omega arith)
  by_last i a j (back x y z w) false e = let n = long in let b = rings.cut.some r l in let q : i + 1 ≡ length ps = omega arith in absurd (false≢true (sym e ∙ eq-eqb (i + 1) (length ps) q))

  pub after_is : (i : ℕ) → i < length (ring_of t.points t.ends r) → (j : ℕ) → IsAfter t.ends r (ring_start t.ends r + i) j → corner_in (ring_of t.points t.ends r) (place_after (ring_of t.points t.ends r) i) ≡ corner_in t.points j
  after_is i a j x = by_last i a j x (i + 1 == length ps) refl

-- ---- round a vertex
module _ (g : Skeleton) (plane : IsPlaneSkeleton g) (even : IsEvenAtVertices g (λ e. 1)) (ds : List (Point × Point)) (darts_are : ds ≡ map dart_ends (bounds_of g)) (t : RingTable) (rings : AreRingsOf ds t) (r : ℕ) (l : r < length t.ends) where
  abbrev begin : Dart
  begin = first_dart g plane even ds darts_are t rings r l

  abbrev way : ℕ → Dart
  way i = walked (next (darts g)) begin i

  abbrev n : ℕ
  n = ring_end t.ends r - ring_start t.ends r - 1

  -- the dart from a corner of the ring to the next one
  pub walk_corners : (i : ℕ) → i < length (ring_of t.points t.ends r) → (corner_in (ring_of t.points t.ends r) i ≡ source (walked (next (darts g)) (first_dart g plane even ds darts_are t rings r l) i)) × (corner_in (ring_of t.points t.ends r) (place_after (ring_of t.points t.ends r) i) ≡ target (walked (next (darts g)) (first_dart g plane even ds darts_are t rings r l) i))
  walk_corners i a =
      let b = rings.cut.some r l in
      let k = long t ds rings r l in
      let w = walk_side g plane even ds darts_are t rings r l i (omega arith) in (
        corner_is t ds rings r l i a ∙ sym (ap (λ (z : Point × Point). z.0) w.2.ends),
        after_is t ds rings r l i a w.0 w.1 ∙ sym (ap (λ (z : Point × Point). z.1) w.2.ends),
      )

  module _ (p : Point) (P : Contains g.vertices p) where
    F : Dart → ℕ
    F d = tally (passes_below p (source d) (target d))

    term : (i : ℕ) → i < length (ring_of t.points t.ends r) → tally (side_below (ring_of t.points t.ends r) p i) ≡ F (way i)
    unfolding F
    term i a = let w = walk_corners i a in (λ k. tally (passes_below p (w.0 k) (w.1 k)))

    counted : count_by (side_below (ring_of t.points t.ends r) p) (range_with_len 0 (length (ring_of t.points t.ends r))) ≡ sum_by F (map (λ i. walked (next (darts g)) begin i) (range_with_len 0 (n + 1)))
    counted =
        let q = long t ds rings r l in
        let all : List ℕ = range_with_len 0 (n + 1) in
        ap (λ m. count_by (side_below (ring_of t.points t.ends r) p) (range_with_len 0 m)) q
        ∙ sum_by-same (λ i. tally (side_below (ring_of t.points t.ends r) p i)) (λ i. F (way i)) all (each (λ i. tally (side_below (ring_of t.points t.ends r) p i) ≡ F (way i)) all (λ i I.
        term i (let a = in_range (n + 1) i (to_member all i I) in omega arith)))
        ∙ sym (sum_by-map F (λ i. walked (next (darts g)) begin i) all)

    same : (z : Dart) → Contains g.edges z.edge → F z ≡ tally (reaches_right z.edge p && under z.edge p)
    unfolding F
    same z E = let w = plane.proper_edge z.edge E in ap tally (passes_is p z.edge (plane.proper p P) w.0 w.1 (plane.forward z.edge E) z.forward)

    abbrev lead : Dart
    lead = least_dart_of g begin

    total : count_by (side_below (ring_of t.points t.ends r) p) (range_with_len 0 (length (ring_of t.points t.ends r))) ≡ sum_by (λ e. cond (reaches_right e p && under e p) (darts_on (dart_labels (darts g)) lead e) 0) g.edges
    total =
        counted
        ∙ cycle_sum g plane begin (first_is g plane even ds darts_are t rings r l).2.bounds.0 n (walk_apart g plane even ds darts_are t rings r l) (walk_round g plane even ds darts_are t rings r l) F
        ∙ by_edges g lead (λ e. reaches_right e p && under e p) F same

    pub round_is : goes_round (ring_of t.points t.ends r) p ≡ odd g (dart_labels (darts g)) (least_dart_of g (first_dart g plane even ds darts_are t rings r l)) (right_bottom g p)
    unfolding odd
    round_is =
        let m : Edge → ℕ = darts_on (dart_labels (darts g)) lead in
        let below : ℕ = sum_by (λ e. cond (reaches_right e p && under e p) (m e) 0) g.edges in
        let y : Even (weight_above g m (slab_right g p) (right_below g p) + below) = even_below g plane p P m (cycle_even g lead plane) in
        ap (λ k. k % 2 == 1) total ∙ sym (odd_alike (weight_above g m (slab_right g p) (right_below g p)) below y)
