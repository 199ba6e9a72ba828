-- Each hole of a region has an outer ring: the outer cycle of the face on its left, at its least corner, is a ring that goes round that corner, and no hole.
use Rattle.std.proofs.Common.{◌≡◌, ℕ, ◌+◌, ◌-◌, ◌<◌, ◌≤◌, Bool, true, false, arith, refl, sym, ap, ◌∙◌, subst, inl, inr, List, length, map, get_or}
use Rattle.std.specs.Prelude.{Option, Some, None}
use Rattle.std.specs.List.{Contains}
use Rattle.std.proofs.lemmas.Bool.{false≢true, cases_Bool}
use Rattle.exact_plane.specs.Point.{Point}
use Rattle.exact_plane.specs.PointOrder.{point_cmp}
use Rattle.plane_graphs.proofs.Ascending.{from_member}
use Rattle.plane_graphs.proofs.Lists.{in_map}
use Rattle.plane_graphs.proofs.Sorting.{any_default}
use Rattle.slab_laws.specs.declared.slab_cell.SlabCell.{SlabCell}
use Rattle.slab_laws.specs.Cycles.{dart_labels, odd, left_of_dart}
use Rattle.slab_laws.specs.Darts.{Dart, darts}
use Rattle.slab_laws.specs.Faces.{cells}
use Rattle.slab_laws.specs.Meets.{SameFace}
use Rattle.slab_laws.specs.Rotation.{next}
use Rattle.slab_laws.specs.Rows.{least_dart_of}
use Rattle.slab_laws.specs.Skeleton.{Skeleton, IsPlaneSkeleton}
use Rattle.slab_laws.specs.Slabs.{right_bottom}
use Rattle.slab_laws.specs.Subdivision.{first_cell}
use Rattle.slab_laws.specs.Weights.{IsEvenAtVertices}
use Rattle.slab_faces.proofs.CyclesLemmas.{cycle_parity}
use Rattle.slab_faces.proofs.ListedCells.{dart_cell}
use Rattle.slab_faces.proofs.Member.{member_in}
use Rattle.slab_faces.proofs.Turns.{face_trans}
use Rattle.sound_changes.specs.NextLaws.{IsDartOf}
use Rattle.face_changes.specs.Kinds.{is_outer, IsBeside}
use Rattle.face_changes.proofs.OneMoreEdge.{one_kind_each, one_outer_cycle}
use Rattle.polygon_sets.specs.Boundaries.{is_inside, bounds_of, IsBoundary}
use Rattle.polygon_sets.specs.ClosedBorders.{no_dart}
use Rattle.polygon_sets.specs.Regions.{dart_ends}
use Rattle.polygon_sets.proofs.BoundaryNext.{one_face, sides_differ, by_left, nothing_outside}
use Rattle.polygon_sets.proofs.ClosedRegions.{IsBound, bound_in}
use Rattle.region_rings.specs.Cycles.{ring_start, ring_end, IsAfter, along, back}
use Rattle.region_rings.specs.Holes.{corner_in, ring_of, IsHole}
use Rattle.region_rings.specs.Nesting.{goes_round, IsRound, IsInnermost}
use Rattle.region_rings.specs.Rings.{RingTable, AreRingsOf}
use Rattle.region_rings.proofs.CycleWalks.{walked, same_lead}
use Rattle.region_rings.proofs.HoleTells.{both_least}
use Rattle.region_rings.proofs.RingDarts.{IsSide, first_dart, first_is, walk_side, one_side, one_after}
use Rattle.region_rings.proofs.RoundCells.{round_is}
use Rattle.region_rings.proofs.WideRings.{IsWide, is_wide, not_round}
use Rattle.slab_faces.proofs.OddSums.{odd_alike}

-- a place of a ring, and the ring
pub in_ring : (ends : List ℕ) (r i j : ℕ) → IsAfter ends r i j → (r < length ends) × (ring_start ends r ≤ i) × (i < ring_end ends r)
in_ring ends r i j (along a b c d) = (a, b, omega arith)
in_ring ends r i j (back a b c d) = (a, b, omega arith)

-- a cycle is odd above all cells of a face or above none
pub odd_face : (g : Skeleton) (l : Dart) (a b : SlabCell) → IsPlaneSkeleton g → SameFace g a b → odd g (dart_labels (darts g)) l a ≡ odd g (dart_labels (darts g)) l b
unfolding odd
odd_face g l a b plane h = odd_alike _ _ (cycle_parity g l a b plane h)

module _ (g : Skeleton) (plane : IsPlaneSkeleton g) (even : IsEvenAtVertices g (λ e. 1)) (ds : List (Point × Point)) (darts_are : ds ≡ map dart_ends (bounds_of g)) (t : RingTable) (rings : AreRingsOf ds t) where
  abbrev begin : (r : ℕ) → r < length t.ends → Dart
  begin r l = first_dart g plane even ds darts_are t rings r l

  abbrev odd_by : Dart → SlabCell → Bool
  odd_by d c = odd g (dart_labels (darts g)) (least_dart_of g d) c

  pub wide_hole : (r : ℕ) (l : r < length t.ends) (h : IsHole (ring_of t.points t.ends r)) → IsWide g plane even ds darts_are t rings r l (corner_in (ring_of t.points t.ends r) h.at)
  wide_hole r l h = is_wide g plane even ds darts_are t rings r l h.at h.within h.least h.wide

  -- a hole's cycle is no outer one
  not_outer : (r : ℕ) (l : r < length t.ends) → IsHole (ring_of t.points t.ends r) → (z : Dart) → least_dart_of g z ≡ least_dart_of g (begin r l) → is_outer g z ≡ false
  not_outer r l h z e =
      let w = wide_hole r l h in
      let n = not_round g plane even ds darts_are t rings r l h.at h.within h.least in
      one_kind_each.kind g z w.dart plane (e ∙ sym w.lead)
      ∙ (λ i. odd g (dart_labels (darts g)) (w.lead i) (w.cell i))
      ∙ sym (round_is g plane even ds darts_are t rings r l (corner_in (ring_of t.points t.ends r) h.at) w.corner)
      ∙ n

  -- ---- the ring of a dart
  pub record HasRing (z : Dart) : Type 0 where
    pub ring : ℕ
    pub within : ring < length t.ends
    pub lead : least_dart_of g z ≡ least_dart_of g (first_dart g plane even ds darts_are t rings ring within)

  -- the side between two places is the dart that the walk meets there
  module _ (r i j : ℕ) (a : IsAfter t.ends r i j) (within : r < length t.ends) where
    steps : ℕ
    steps = i - ring_start t.ends r

    there : ring_start t.ends r + steps ≡ i
    unfolding steps
    there = let m = in_ring t.ends r i j a in let u = m.1 in omega arith

    met : (k : ℕ) × IsAfter t.ends r (ring_start t.ends r + steps) k × IsSide g plane even ds darts_are t rings (ring_start t.ends r + steps) k (walked (next (darts g)) (begin r within) steps)
    met = walk_side g plane even ds darts_are t rings r within steps (let m = in_ring t.ends r i j a in let u = m.2 in let e = there in omega arith)

    walk_meets : IsSide g plane even ds darts_are t rings i j (walked (next (darts g)) (begin r within) steps)
    walk_meets =
        let w = met in
        let f : w.0 ≡ j = one_after t.ends r i w.0 j (subst (λ (n : ℕ). IsAfter t.ends r n w.0) there w.1) a in
        subst (λ (n : ℕ). IsSide g plane even ds darts_are t rings i n (walked (next (darts g)) (begin r within) steps)) f (subst (λ (n : ℕ). IsSide g plane even ds darts_are t rings n w.0 (walked (next (darts g)) (begin r within) steps)) there w.2)

    pub on_ring : (z : Dart) → IsSide g plane even ds darts_are t rings i j z → least_dart_of g z ≡ least_dart_of g (first_dart g plane even ds darts_are t rings r within)
    on_ring z own =
        let p = one_side g plane even ds darts_are t rings i j z (walked (next (darts g)) (begin r within) steps) own walk_meets in
        ap (least_dart_of g) p ∙ same_lead g plane (begin r within) (first_is g plane even ds darts_are t rings r within).2.bounds.0 steps

  ring_of_dart : (z : Dart) → IsBound g (is_inside g) plane (one_face g plane even) z → HasRing z
  ring_of_dart z B =
      let c : Contains ds (dart_ends z) = subst (λ (xs : List (Point × Point)). Contains xs (dart_ends z)) (sym darts_are) (from_member (map dart_ends (bounds_of g)) (dart_ends z) (in_map dart_ends z (bounds_of g) (bound_in g (is_inside g) plane (one_face g plane even) z B))) in
      let k = rings.all c.0 c.1 in
      let l = (in_ring t.ends k.0 k.1 k.2 k.3).0 in
      record {
        ring = k.0;
        within = l;
        lead = on_ring k.0 k.1 k.2 k.3 l z (record { bounds = B; ends = sym (k.4 ∙ any_default ds c.0 no_dart (dart_ends z) c.1 ∙ c.2) });
      }

  -- ---- a hole's outer ring
  -- an outer ring that goes round p, and has the face at the lower right of p on its left
  pub record IsOuterRing (p : Point) : Type 0 where
    pub ring : ℕ
    pub round : IsRound t.points t.ends t.holes p ring
    pub face : SameFace g (left_of_dart g (first_dart g plane even ds darts_are t rings ring round.within)) (right_bottom g p)

  module _ (r : ℕ) (l : r < length t.ends) (h : IsHole (ring_of t.points t.ends r)) where
    abbrev v : Point
    v = corner_in (ring_of t.points t.ends r) h.at

    abbrev c : SlabCell
    c = right_bottom g v

    w : IsWide g plane even ds darts_are t rings r l v
    w = wide_hole r l h

    listed : Contains (cells g) c
    listed = subst (Contains (cells g)) w.cell (member_in (cells g) (left_of_dart g w.dart) (dart_cell g plane w.dart.edge w.dart.forward w.bounds.0))

    c_inside : is_inside g c ≡ true
    c_inside = ap (is_inside g) (sym w.cell) ∙ w.bounds.1

    bounded : SameFace g c first_cell → ⊥
    bounded s = false≢true (sym (nothing_outside g plane even) ∙ sym (one_face g plane even c first_cell s) ∙ c_inside)

    -- a dart of the outer cycle
    outer : (d : Dart) × IsDartOf g d × IsBeside g d c × (is_outer g d ≡ true)
    outer = one_outer_cycle.bounded g c plane listed bounded

    abbrev z : Dart
    z = outer.0

    z_bounds : IsBound g (is_inside g) plane (one_face g plane even) z
    z_bounds = by_left g (is_inside g) plane (one_face g plane even) (sides_differ g plane even) z outer.1 (one_face g plane even (left_of_dart g z) c outer.2 ∙ c_inside)

    its : HasRing z
    its = ring_of_dart z z_bounds

    goes : goes_round (ring_of t.points t.ends its.ring) v ≡ true
    goes =
        round_is g plane even ds darts_are t rings its.ring its.within v w.corner
        ∙ ap (λ (d : Dart). odd g (dart_labels (darts g)) d c) (sym its.lead)
        ∙ sym (odd_face g (least_dart_of g z) (left_of_dart g z) c plane outer.2)
        ∙ outer.3

    no_hole : get_or t.holes its.ring false ≡ false
    no_hole = elim (cases_Bool (get_or t.holes its.ring false)) [
      | inl y ↦ absurd (false≢true (sym (not_outer its.ring its.within ((rings.holes.each its.ring its.within).0 y) z its.lead) ∙ outer.3))
      | inr n ↦ n
    ]

    pub round_hole : IsOuterRing (corner_in (ring_of t.points t.ends r) h.at)
    round_hole = record {
      ring = its.ring;
      round = record { within = its.within; outer = no_hole; round = goes };
      face = face_trans g (left_of_dart g (begin its.ring its.within)) (left_of_dart g z) c (one_kind_each.face g (begin its.ring its.within) z plane (sym its.lead)) outer.2;
    }

  some_of : (r : ℕ) (o : Option ℕ) (v : Point) (q : ℕ) → get_or t.outers r None ≡ o → IsInnermost t.points t.ends t.holes t.leasts v o → IsRound t.points t.ends t.holes v q → (k : ℕ) × (get_or t.outers r None ≡ Some k)
  some_of r None v q e i R = absurd (i q R)
  some_of r (Some k) v q e i R = (k, e)

  -- the least corner, where it turns wide
  pub least_corner : (r : ℕ) (l : r < length t.ends) (h : IsHole (ring_of t.points t.ends r)) → corner_in (ring_of t.points t.ends r) h.at ≡ corner_in t.leasts r
  least_corner r l h =
      let m = rings.leasts.each r l in
      both_least (ring_of t.points t.ends r) m.at m.within m.least h.at h.within h.least (point_cmp (corner_in (ring_of t.points t.ends r) h.at) (corner_in (ring_of t.points t.ends r) m.at)) refl ∙ m.is

  pub has_outer : (r : ℕ) → r < length t.ends → get_or t.holes r false ≡ true → (k : ℕ) × (get_or t.outers r None ≡ Some k)
  has_outer r l y =
      let h = (rings.holes.each r l).0 y in
      let w = round_hole r l h in
      let e = least_corner r l h in
      some_of r (get_or t.outers r None) (corner_in t.leasts r) w.ring refl ((rings.outers.each r l).0 y) (subst (λ (v : Point). IsRound t.points t.ends t.holes v w.ring) e w.round)

-- of a region's rings
pub holes_nested : (ds : List (Point × Point)) → IsBoundary ds → (t : RingTable) → AreRingsOf ds t → (r : ℕ) → r < length t.ends → get_or t.holes r false ≡ true → (k : ℕ) × (get_or t.outers r None ≡ Some k)
holes_nested ds b t rings = has_outer b.graph b.plane b.even ds b.darts t rings
