-- A hole and its outer ring bound one face: of the outer rings round the hole's least corner, the face's own outer cycle has the greatest least corner.
use Rattle.std.proofs.Common.{◌≡◌, ◌≢◌, ℕ, ◌<◌, true, false, refl, sym, ap, ◌∙◌, subst, inl, inr, List, length, map, get_or, Ordering, Less, Equal, Greater}
use Rattle.std.specs.Prelude.{Some}
use Rattle.std.specs.Ordering.{ordering_reverse}
use Rattle.std.specs.List.{Contains}
use Rattle.std.proofs.lemmas.Bool.{false≢true, false_from_ne_true, cases_Bool}
use Rattle.exact_plane.specs.Point.{Point}
use Rattle.exact_plane.specs.PointOrder.{point_cmp}
use Rattle.exact_plane.specs.PointOrderLaws.{point_cmp_total, same_point}
use Rattle.plane_graphs.proofs.Ascending.{to_member}
use Rattle.slab_laws.specs.Cycles.{dart_labels, odd, left_of_dart}
use Rattle.slab_laws.specs.Darts.{Dart, darts, target}
use Rattle.slab_laws.specs.Meets.{SameFace}
use Rattle.slab_laws.specs.Rotation.{same_dart, twin, earlier, next, OutOf}
use Rattle.slab_laws.specs.Rows.{least_dart_of}
use Rattle.slab_laws.specs.Skeleton.{Skeleton, left_of, precedes, IsPlaneSkeleton}
use Rattle.slab_laws.specs.Slabs.{right_bottom}
use Rattle.slab_laws.specs.Weights.{IsEvenAtVertices}
use Rattle.slab_faces.proofs.NextLemmas.{darts_exact}
use Rattle.slab_faces.proofs.RotationLemmas.{earlier_out}
use Rattle.slab_faces.proofs.Turns.{face_trans, face_sym, face_at}
use Rattle.rotation_order.proofs.RingTurned.{strict_at}
use Rattle.face_changes.proofs.OneMoreEdge.{one_kind_each}
use Rattle.polygon_sets.specs.Boundaries.{is_inside, bounds_of}
use Rattle.polygon_sets.specs.Regions.{dart_ends}
use Rattle.polygon_sets.proofs.BoundaryNext.{one_face}
use Rattle.polygon_sets.proofs.ClosedRegions.{IsBound, bound_out}
use Rattle.region_rings.specs.Holes.{corner_in, ring_of, turns_wide, IsHole}
use Rattle.region_rings.specs.Nesting.{IsRound, IsInnermost, IsLeastCorner}
use Rattle.region_rings.specs.Rings.{RingTable, AreRingsOf, AreOfOneFace}
use Rattle.region_rings.proofs.CycleWalks.{walked, same_lead}
use Rattle.region_rings.proofs.HolesNested.{IsOuterRing, in_ring, least_corner, wide_hole, round_hole, on_ring, odd_face}
use Rattle.region_rings.proofs.LaterRings.{not_over}
use Rattle.region_rings.proofs.RingDarts.{first_dart, first_is}
use Rattle.region_rings.proofs.RoundCells.{round_is}
use Rattle.region_rings.proofs.WideCorners.{goes_forward, not_upright}
use Rattle.region_rings.proofs.WideRings.{IsWide, bound_at, prior, turn_is, came_from, goes_from, before_not, after_not}

-- nothing comes before what no least corner comes before
none_less : (ps : List Point) (p v : Point) → IsLeastCorner ps p → point_cmp p v ≢ Less → (j : ℕ) → j < length ps → point_cmp (corner_in ps j) v ≢ Less
none_less ps p v c h j l k = by (point_cmp p (corner_in ps j)) refl
  where
    by : (o : Ordering) → point_cmp p (corner_in ps j) ≡ o → ⊥
    by Less e = h (point_cmp_total.trans p (corner_in ps j) v e k)
    by Equal e = h (ap (λ (z : Point). point_cmp z v) (same_point p (corner_in ps j) e) ∙ k)
    by Greater e = c.least j l (ap (point_cmp (corner_in ps j)) c.is ∙ point_cmp_total.antisymm (corner_in ps j) p ∙ ap ordering_reverse e)

module _ (g : Skeleton) (plane : IsPlaneSkeleton g) (even : IsEvenAtVertices g (λ e. 1)) (ds : List (Point × Point)) (darts_are : ds ≡ map dart_ends (bounds_of g)) (t : RingTable) (rings : AreRingsOf ds t) where
  abbrev begin : (r : ℕ) → r < length t.ends → Dart
  begin r l = first_dart g plane even ds darts_are t rings r l

  abbrev ps : ℕ → List Point
  ps r = ring_of t.points t.ends r

  -- ---- an outer ring and its least corner
  module _ (k : ℕ) (l : k < length t.ends) (outer : get_or t.holes k false ≡ false) where
    least : IsLeastCorner (ps k) (corner_in t.leasts k)
    least = rings.leasts.each k l

    abbrev i : ℕ
    i = least.at

    abbrev e : Dart
    e = walked (next (darts g)) (begin k l) i

    narrow : turns_wide (ps k) i ≡ false
    narrow = false_from_ne_true (turns_wide (ps k) i) (λ y. false≢true (sym outer ∙ (rings.holes.each k l).1 (record { at = i; within = least.within; least = least.least; wide = y })))

    E : OutOf g (corner_in (ps k) i) e
    E = goes_from g plane even ds darts_are t rings k l i least.within

    B : IsBound g (is_inside g) plane (one_face g plane even) e
    B = bound_at g plane even ds darts_are t rings k l i least.within

    abbrev x : Dart
    x = twin (walked (next (darts g)) (begin k l) (prior g plane even ds darts_are t rings k l i least.within).0)

    X : OutOf g (corner_in (ps k) i) x
    X = came_from g plane even ds darts_are t rings k l i least.within

    x_not : precedes (target x) (corner_in (ps k) i) ≡ false
    x_not = before_not g plane even ds darts_are t rings k l i least.within least.least

    e_not : precedes (target e) (corner_in (ps k) i) ≡ false
    e_not = after_not g plane even ds darts_are t rings k l i least.within least.least

    e_forward : e.forward ≡ true
    e_forward = goes_forward g (corner_in (ps k) i) e plane E e_not

    x_bound : is_inside g (left_of_dart g x) ≡ false
    x_bound = (bound_at g plane even ds darts_are t rings k l (prior g plane even ds darts_are t rings k l i least.within).0 (prior g plane even ds darts_are t rings k l i least.within).1).2

    x_first : earlier x e ≡ true
    x_first = elim (cases_Bool (earlier x e)) [
      | inl y ↦ y
      | inr n ↦ absurd (let q = (strict_at g (corner_in (ps k) i) e plane E).total x e X E n (turn_is g plane even ds darts_are t rings k l i least.within ∙ narrow) in false≢true (sym x_bound ∙ ap (λ (z : Dart). is_inside g (left_of_dart g z)) q ∙ B.1))
    ]

    right : left_of e.edge.low e.edge.high ≡ true
    right = elim (cases_Bool (left_of e.edge.low e.edge.high)) [
      | inl y ↦ y
      | inr n ↦ absurd (not_upright x e (goes_forward g (corner_in (ps k) i) x plane X x_not) e_forward (earlier_out x e x_first) n)
    ]

    -- any other outer ring whose least corner doesn't come before is even on its left
    other_even : (q : ℕ) (m : q < length t.ends) → get_or t.holes q false ≡ false → (least_dart_of g (begin k l) ≡ least_dart_of g (begin q m) → ⊥) → point_cmp (corner_in t.leasts q) (corner_in t.leasts k) ≢ Less → odd g (dart_labels (darts g)) (least_dart_of g (begin q m)) (left_of_dart g (begin k l)) ≡ false
    other_even q m out ne h =
        let lead = same_lead g plane (begin k l) (first_is g plane even ds darts_are t rings k l).2.bounds.0 i in
        let E' : OutOf g (corner_in t.leasts k) e = subst (λ (v : Point). OutOf g v e) least.is E in
        let other = false_from_ne_true (same_dart (least_dart_of g e) (least_dart_of g (begin q m))) (λ y. ne (sym lead ∙ darts_exact.path (least_dart_of g e) (least_dart_of g (begin q m)) y)) in
        odd_face g (least_dart_of g (begin q m)) (left_of_dart g (begin k l)) (left_of_dart g e) plane (one_kind_each.face g (begin k l) e plane (sym lead))
        ∙ not_over g plane even ds darts_are t rings q m (corner_in t.leasts k) e E' B e_forward right other out (none_less (ps q) (corner_in t.leasts q) (corner_in t.leasts k) (rings.leasts.each q m) h)

  -- ---- the innermost one
  module _ (r : ℕ) (l : r < length t.ends) (h : IsHole (ring_of t.points t.ends r)) (q : ℕ) (inner : IsInnermost t.points t.ends t.holes t.leasts (corner_in (ring_of t.points t.ends r) h.at) (Some q)) where
    abbrev v : Point
    v = corner_in (ring_of t.points t.ends r) h.at

    w : IsOuterRing g plane even ds darts_are t rings v
    w = round_hole g plane even ds darts_are t rings r l h

    wide : IsWide g plane even ds darts_are t rings r l v
    wide = wide_hole g plane even ds darts_are t rings r l h

    abbrev own : IsRound t.points t.ends t.holes v q
    own = inner.0

    same_ring : least_dart_of g (begin w.ring w.round.within) ≡ least_dart_of g (begin q own.within)
    same_ring = elim (cases_Bool (same_dart (least_dart_of g (begin w.ring w.round.within)) (least_dart_of g (begin q own.within)))) [
      | inl y ↦ darts_exact.path (least_dart_of g (begin w.ring w.round.within)) (least_dart_of g (begin q own.within)) y
      | inr n ↦ absurd (
          let even_there = other_even w.ring w.round.within w.round.outer q own.within own.outer (λ e. false≢true (sym n ∙ ap (λ (z : Dart). same_dart z (least_dart_of g (begin q own.within))) e ∙ darts_exact.itself (least_dart_of g (begin q own.within)))) (inner.1 w.ring w.round) in
          let odd_there = sym (round_is g plane even ds darts_are t rings q own.within v wide.corner) ∙ own.round in
          false≢true (sym even_there ∙ odd_face g (least_dart_of g (begin q own.within)) (left_of_dart g (begin w.ring w.round.within)) (right_bottom g v) plane w.face ∙ odd_there))
    ]

    -- the hole and the ring have one face on their left
    one_part : SameFace g (left_of_dart g (begin r l)) (left_of_dart g (begin q own.within))
    one_part =
        face_trans g (left_of_dart g (begin r l)) (right_bottom g v) (left_of_dart g (begin q own.within))
        (face_trans g (left_of_dart g (begin r l)) (left_of_dart g wide.dart) (right_bottom g v) (one_kind_each.face g (begin r l) wide.dart plane (sym wide.lead)) (face_at g (left_of_dart g wide.dart) (right_bottom g v) wide.cell))
        (face_trans g (right_bottom g v) (left_of_dart g (begin w.ring w.round.within)) (left_of_dart g (begin q own.within)) (face_sym g (left_of_dart g (begin w.ring w.round.within)) (right_bottom g v) w.face) (one_kind_each.face g (begin w.ring w.round.within) (begin q own.within) plane same_ring))

-- of a region's rings
pub of_one_face : (ds : List (Point × Point)) (t : RingTable) → AreRingsOf ds t → AreOfOneFace ds t
of_one_face ds t rings b r q d e hole out D E s u =
    let g = b.graph in
    let P = b.plane in
    let V = b.even in
    let l = (in_ring t.ends r s.from s.to s.after).0 in
    let h = (rings.holes.each r l).0 hole in
    let first = (rings.outers.each r l).0 hole in
    let some : IsInnermost t.points t.ends t.holes t.leasts (corner_in t.leasts r) (Some q) = subst (IsInnermost t.points t.ends t.holes t.leasts (corner_in t.leasts r)) out first in
    let inner : IsInnermost t.points t.ends t.holes t.leasts (corner_in (ring_of t.points t.ends r) h.at) (Some q) = subst (λ (v : Point). IsInnermost t.points t.ends t.holes t.leasts v (Some q)) (sym (least_corner g P V ds b.darts t rings r l h)) some in
    let m = inner.0.within in
    let bound : (x : Dart) → Contains (bounds_of g) x → IsBound g (is_inside g) P (one_face g P V) x = λ x X. bound_out g (is_inside g) P (one_face g P V) x (to_member (bounds_of g) x X) in
    let a = on_ring g P V ds b.darts t rings r s.from s.to s.after l d (record { bounds = bound d D; ends = sym s.is }) in
    let c = on_ring g P V ds b.darts t rings q u.from u.to u.after m e (record { bounds = bound e E; ends = sym u.is }) in
    let x = first_dart g P V ds b.darts t rings r l in
    let y = first_dart g P V ds b.darts t rings q m in
    face_trans g (left_of_dart g d) (left_of_dart g x) (left_of_dart g e) (one_kind_each.face g d x P a)
    (face_trans g (left_of_dart g x) (left_of_dart g y) (left_of_dart g e) (one_part g P V ds b.darts t rings r l h q inner) (one_kind_each.face g y e P (sym c)))
