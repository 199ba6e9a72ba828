-- The sides of a ring are the darts of one cycle of the border's plane graph, in their order.
use Rattle.std.proofs.Common.{◌≡◌, ℕ, zero, suc, ◌+◌, ◌-◌, ◌<◌, ◌≤◌, arith, refl, sym, ap, ◌∙◌, subst, inl, inr, List, length, map}
use Rattle.std.specs.List.{Contains}
use Rattle.std.proofs.lemmas.Bool.{cases_lt}
use Rattle.std.proofs.lemmas.List.Elements.{Contains-get_or}
use Rattle.exact_plane.specs.Point.{Point}
use Rattle.plane_graphs.proofs.Ascending.{to_member}
use Rattle.plane_graphs.proofs.Lists.{of_map}
use Rattle.slab_laws.specs.Darts.{Dart, darts}
use Rattle.slab_laws.specs.Rotation.{next}
use Rattle.slab_laws.specs.Skeleton.{Skeleton, IsPlaneSkeleton}
use Rattle.slab_laws.specs.Weights.{IsEvenAtVertices}
use Rattle.slab_faces.proofs.DartOrder.{one_dart}
use Rattle.polygon_sets.specs.Boundaries.{is_inside, bounds_of}
use Rattle.polygon_sets.specs.ClosedBorders.{IsNextSide, no_dart}
use Rattle.polygon_sets.specs.Regions.{dart_ends}
use Rattle.polygon_sets.proofs.BoundaryNext.{one_face, sides_differ, only_next}
use Rattle.polygon_sets.proofs.ClosedRegions.{IsBound, bound_out}
use Rattle.region_rings.specs.Cycles.{ring_start, ring_end, IsAfter, along, back}
use Rattle.region_rings.specs.Rings.{RingTable, side, AreRingsOf}
use Rattle.region_rings.proofs.CycleWalks.{walked, walked_on, walked_none}

-- one place comes after another
pub one_after : (ends : List ℕ) (r i j k : ℕ) → IsAfter ends r i j → IsAfter ends r i k → j ≡ k
one_after ends r i j k (along a b c d) (along a' b' c' d') = omega arith
one_after ends r i j k (along a b c d) (back a' b' c' d') = absurd (omega arith)
one_after ends r i j k (back a b c d) (along a' b' c' d') = absurd (omega arith)
one_after ends r i j k (back a b c d) (back a' b' c' d') = omega arith

-- within the ring there is one, and it has one again
pub some_after : (ends : List ℕ) (r i : ℕ) → r < length ends → ring_start ends r ≤ i → i < ring_end ends r → (j : ℕ) × IsAfter ends r i j
some_after ends r i l a b = elim (cases_lt (i + 1) (ring_end ends r)) [
  | inl k ↦ (i + 1, along l a k refl)
  | inr k ↦ (ring_start ends r, back l a (omega arith) refl)
]

pub again_after : (ends : List ℕ) (r i j : ℕ) → IsAfter ends r i j → (k : ℕ) × IsAfter ends r j k
again_after ends r i j (along a b c d) = some_after ends r j a (omega arith) (omega arith)
again_after ends r i j (back a b c d) = some_after ends r j a (omega arith) (omega arith)

module _ (g : Skeleton) (plane : IsPlaneSkeleton g) (even : IsEvenAtVertices g (λ e. 1)) (ds : List (Point × Point)) (darts_are : ds ≡ map dart_ends (bounds_of g)) (t : RingTable) (rings : AreRingsOf ds t) where
  -- it has what is inside on its left alone
  abbrev pub Bounds : Dart → Type 0
  Bounds d = IsBound g (is_inside g) plane (one_face g plane even) d

  -- the dart is the side between two places
  pub record IsSide (i j : ℕ) (d : Dart) : Type 0 where
    pub bounds : IsBound g (is_inside g) plane (one_face g plane even) d
    pub ends : dart_ends d ≡ side t i j

  pub side_dart : (r i j : ℕ) → IsAfter t.ends r i j → (d : Dart) × IsSide i j d
  side_dart r i j a =
      let k = rings.sides r i j a in
      let c : Contains ds (side t i j) = subst (Contains ds) k.2 (Contains-get_or ds k.0 no_dart k.1) in
      let w = of_map dart_ends (side t i j) (bounds_of g) (to_member (map dart_ends (bounds_of g)) (side t i j) (subst (λ (xs : List (Point × Point)). Contains xs (side t i j)) darts_are c)) in
      (w.0, record { bounds = bound_out g (is_inside g) plane (one_face g plane even) w.0 w.1; ends = sym w.2 })

  -- two darts that are one side are one
  pub one_side : (i j : ℕ) (d e : Dart) → IsSide i j d → IsSide i j e → d ≡ e
  one_side i j d e a b =
      let q = a.ends ∙ sym b.ends in
      one_dart g plane d e a.bounds.0 b.bounds.0 (ap (λ (z : Point × Point). z.0) q) (ap (λ (z : Point × Point). z.1) q)

  -- the dart of the side after another is the next one
  pub next_side_dart : (r i j k : ℕ) (d e : Dart) → IsAfter t.ends r i j → IsAfter t.ends r j k → IsSide i j d → IsSide j k e → e ≡ next (darts g) d
  next_side_dart r i j k d e a b s u =
      let h = rings.rule r i j k a b in
      let h' : IsNextSide ds (dart_ends d) (dart_ends e) = subst (λ (z : Point × Point). IsNextSide ds (dart_ends d) z) (sym u.ends) (subst (λ (z : Point × Point). IsNextSide ds z (side t j k)) (sym s.ends) h) in
      only_next g (is_inside g) plane (one_face g plane even) (sides_differ g plane even) d e s.bounds u.bounds (subst (λ (xs : List (Point × Point)). IsNextSide xs (dart_ends d) (dart_ends e)) darts_are h')

  -- ---- along a ring
  module _ (r : ℕ) (l : r < length t.ends) where
    begins : ring_start t.ends r < ring_end t.ends r
    begins = rings.cut.some r l

    -- how many places it has besides the first
    abbrev pub more : ℕ
    more = ring_end t.ends r - ring_start t.ends r - 1

    first_after : (j : ℕ) × IsAfter t.ends r (ring_start t.ends r) j
    first_after = let b = begins in some_after t.ends r (ring_start t.ends r) l (omega arith) b

    -- the dart of its first side
    pub first_dart : Dart
    first_dart = (side_dart r (ring_start t.ends r) first_after.0 first_after.1).0

    pub first_is : (j : ℕ) × IsAfter t.ends r (ring_start t.ends r) j × IsSide (ring_start t.ends r) j first_dart
    unfolding first_dart
    first_is = (first_after.0, first_after.1, (side_dart r (ring_start t.ends r) first_after.0 first_after.1).1)

    -- the dart that a walk meets after so many steps
    pub walk_side : (i : ℕ) → ring_start t.ends r + i < ring_end t.ends r → (j : ℕ) × IsAfter t.ends r (ring_start t.ends r + i) j × IsSide (ring_start t.ends r + i) j (walked (next (darts g)) first_dart i)
    walk_side zero h =
        let e : ring_start t.ends r ≡ ring_start t.ends r + 0 = omega arith in
        let f = first_is in
        subst (λ (n : ℕ). (j : ℕ) × IsAfter t.ends r n j × IsSide n j (walked (next (darts g)) first_dart 0)) e (f.0, f.1, subst (IsSide (ring_start t.ends r) f.0) (sym (walked_none (next (darts g)) first_dart)) f.2)
    walk_side (suc i) h =
        let w = walk_side i (omega arith) in
        let n = some_after t.ends r (ring_start t.ends r + suc i) l (omega arith) h in
        let on : IsAfter t.ends r (ring_start t.ends r + i) (ring_start t.ends r + suc i) = along l (omega arith) (omega arith) (omega arith) in
        let s = side_dart r (ring_start t.ends r + suc i) n.0 n.1 in
        let q : w.0 ≡ ring_start t.ends r + suc i = one_after t.ends r (ring_start t.ends r + i) w.0 (ring_start t.ends r + suc i) w.1 on in
        let e = next_side_dart r (ring_start t.ends r + i) (ring_start t.ends r + suc i) n.0 (walked (next (darts g)) first_dart i) s.0 on n.1 (subst (λ (j : ℕ). IsSide (ring_start t.ends r + i) j (walked (next (darts g)) first_dart i)) q w.2) s.1 in
        (n.0, n.1, subst (IsSide (ring_start t.ends r + suc i) n.0) (e ∙ sym (walked_on (next (darts g)) first_dart i)) s.1)

    -- it is back after the last side
    pub walk_round : next (darts g) (walked (next (darts g)) first_dart (ring_end t.ends r - ring_start t.ends r - 1)) ≡ first_dart
    walk_round =
        let b = begins in
        let w = walk_side more (omega arith) in
        let on : IsAfter t.ends r (ring_start t.ends r + more) (ring_start t.ends r) = back l (omega arith) (omega arith) refl in
        let q : w.0 ≡ ring_start t.ends r = one_after t.ends r (ring_start t.ends r + more) w.0 (ring_start t.ends r) w.1 on in
        let f = first_is in
        sym (next_side_dart r (ring_start t.ends r + more) (ring_start t.ends r) f.0 (walked (next (darts g)) first_dart more) first_dart on f.1 (subst (λ (j : ℕ). IsSide (ring_start t.ends r + more) j (walked (next (darts g)) first_dart more)) q w.2) f.2)

    -- and not before
    pub walk_apart : (i j : ℕ) → i < ring_end t.ends r - ring_start t.ends r - 1 + 1 → j < ring_end t.ends r - ring_start t.ends r - 1 + 1 → walked (next (darts g)) first_dart i ≡ walked (next (darts g)) first_dart j → i ≡ j
    walk_apart i j a b e =
        let s = begins in
        let u = walk_side i (omega arith) in
        let v = walk_side j (omega arith) in
        let k = rings.once r r (ring_start t.ends r + i) u.0 (ring_start t.ends r + j) v.0 u.1 v.1 (sym u.2.ends ∙ ap dart_ends e ∙ v.2.ends) in
        omega arith
