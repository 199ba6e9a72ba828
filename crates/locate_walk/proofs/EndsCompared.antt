-- A point among the ends of a dart, by two comparisons, of points or of whole parts.
use Rattle.std.proofs.Common.{◌≡◌, true, inl, inr, sym, ap, ◌∙◌, subst, pos, ◌<ℤ◌, Less, Greater}
use Rattle.std.specs.Ordering.{ordering_reverse}
use Rattle.exact_plane.specs.WholeParts.{whole_parts, is_left_or_right_of}
use Rattle.exact_plane.specs.Point.{Point}
use Rattle.exact_plane.specs.PointOrder.{point_cmp}
use Rattle.exact_plane.specs.PointOrderLaws.{point_cmp_total}
use Rattle.plane_graphs.proofs.Order.{Lt, lt_never, lt_both, after_out}
use Rattle.locate_walk.specs.Passages.{IsApart}
use Rattle.exact_plane.proofs.WholeOrders.{beside_order}

pub before_out : (p q : Point) → point_cmp p q ≡ Less → Lt p q
before_out p q e = record { is = e }

-- two points of which one comes before the other are two
pub differ : {p q : Point} → Lt p q → p ≡ q → ⊥
differ {p} {q} h e = lt_never (subst (λ x. Lt x q) e h)

pub both_before : (s p t : Point) → Lt s p → Lt t p → IsApart s p t
both_before s p t a b = record {
  off_source = differ a;
  off_target = differ b;
  not_ahead = λ k. lt_both b (record { is = k.1 });
  not_back = λ k. lt_both a (record { is = k.1 });
}

pub both_after : (s p t : Point) → Lt p s → Lt p t → IsApart s p t
both_after s p t a b = record {
  off_source = λ e. differ a (sym e);
  off_target = λ e. differ b (sym e);
  not_ahead = λ k. lt_both a (record { is = k.0 });
  not_back = λ k. lt_both b (record { is = k.0 });
}

-- ---- by whole parts
-- both ends are to the left of the point, or both to its right
pub beside_apart : (s p t : Point) → pos 0 <ℤ s.w → pos 0 <ℤ p.w → pos 0 <ℤ t.w → is_left_or_right_of (whole_parts p) (whole_parts s) (whole_parts t) ≡ true → IsApart s p t
beside_apart s p t S P T h = elim (beside_order p s t P S T h) [
  | inl k ↦ both_before s p t (record { is = k.0 }) (record { is = k.1 })
  | inr k ↦ both_after s p t (record { is = k.0 }) (record { is = k.1 })
]
