-- Meetings that are sorted by their points, and then have each point once.
use Rattle.std.proofs.Common.{◌≡◌, Bool, true, List, Any, sym, ◌∙◌, subst, Ordering}
use Rattle.std.specs.Cmp.{IsEquivalence, IsTotalOrder}
use Rattle.std.specs.List.{dedup}
use Rattle.std.specs.List.Sorted.{IsPermutation, IsSorted}
use Rattle.std.proofs.lemmas.Cmp.{on_equiv, on_total}
use Rattle.std.proofs.lemmas.List.Kept.{Any-dedup, Contains-from_dedup, IsStrictlySortedBy-dedup}
use Rattle.std.proofs.lemmas.List.Sorted.{Contains-permutation, IsPermutation-sym}
use Rattle.exact_plane.specs.Point.{Point, point_eq}
use Rattle.exact_plane.specs.PointOrder.{point_cmp}
use Rattle.exact_plane.specs.PointOrderLaws.{point_cmp_total, point_cmp_ties, point_eq_equiv, same_point as point_cmp_exact}
use Rattle.integers.proofs.Tests.{is_equal}
use Rattle.plane_graphs.specs.Ascending.{Member, IsAscending}
use Rattle.plane_graphs.proofs.Ascending.{from_member, from_std, to_member, IsAscending-map}
use Rattle.plane_graphs.proofs.Lists.{in_map, of_map}
use Rattle.zone_walk.specs.declared.plan.Meeting.{Meeting}
use Rattle.zone_walk.specs.Zone.{points_of_meetings}
use Rattle.path_zone.specs.Gathered.{HasPoint}

abbrev pub same_place : Meeting → Meeting → Bool
same_place m n = point_eq m.point n.point

abbrev pub by_point : Meeting → Meeting → Ordering
by_point m n = point_cmp m.point n.point

pub total : IsTotalOrder by_point
total = on_total (λ (m : Meeting). m.point) point_cmp_total

equivalence : IsEquivalence same_place
equivalence = on_equiv (λ (m : Meeting). m.point) point_eq_equiv

module _ (old mid new : List Meeting) (moved : IsPermutation old mid) (is : new ≡ dedup same_place mid) where
  pub ordered_ascend : IsSorted by_point mid → IsAscending point_cmp (points_of_meetings new)
  ordered_ascend sorted =
      subst (λ (ms : List Meeting). IsAscending point_cmp (points_of_meetings ms)) (sym is)
      (IsAscending-map by_point point_cmp (λ (m : Meeting). m.point) (dedup same_place mid) (λ m n i j e. e) (from_std by_point (dedup same_place mid) (IsStrictlySortedBy-dedup total (λ m n. point_cmp_ties m.point n.point) mid sorted)))

  pub ordered_from : (m : Meeting) → Member m new → Member m old
  ordered_from m i =
      to_member old m (Contains-permutation mid old m (IsPermutation-sym old mid moved) (Contains-from_dedup same_place mid m (from_member (dedup same_place mid) m (subst (Member m) is i))))

  pub ordered_points : (x : Point) → HasPoint old x → HasPoint new x
  ordered_points x i =
      let r = of_map (λ (m : Meeting). m.point) x old i in
      stays r.0 (Any-dedup equivalence mid r.0 (Contains-permutation old mid r.0 moved (from_member old r.0 r.1))) r.2
    where
      stays : (m : Meeting) → Any (λ n. same_place m n ≡ true) (dedup same_place mid) → x ≡ m.point → HasPoint new x
      stays m (k, n, low, here, e) q =
          let same : m.point ≡ n.point = point_cmp_exact m.point n.point (is_equal (point_cmp m.point n.point) (sym (point_cmp_ties m.point n.point) ∙ e)) in
          subst (HasPoint new) (sym (q ∙ same)) (in_map (λ (m : Meeting). m.point) n new (subst (Member n) (sym is) (to_member (dedup same_place mid) n (k, low, here))))
