-- Marks are equal where their order does not tell them apart.
use Rattle.std.proofs.Common.{◌≡◌, Bool, true, false, ◌&&◌, eqb, sym, ap, ap₂, ◌∙◌, nat_cmp}
use Rattle.std.specs.Ordering.{int_eq, ordering_then, eq_by_cmp}
use Rattle.exact_plane.specs.Point.{Point}
use Rattle.exact_plane.specs.PointOrder.{point_cmp}
use Rattle.exact_plane.specs.PointOrderLaws.{point_cmp_ties}
use Rattle.plane_graphs.specs.Graph.{mark_cmp}
use Rattle.plane_graphs.specs.Line.{same_point}
use Rattle.present_graphs.specs.Marks.{mark_of}
use Rattle.present_graphs.specs.declared.marks.Mark.{Mark}
use Rattle.integers.proofs.Tests.{number_ties, both_equal}

-- the two points have the same numbers
abbrev pub same_numbers : Point → Point → Bool
same_numbers p q = int_eq p.x q.x && (int_eq p.y q.y && int_eq p.w q.w)

pub mark_ties : (m n : Mark) → same_numbers m.low n.low && (same_numbers m.high n.high && eqb m.curve.0 n.curve.0) ≡ eq_by_cmp (λ x y. mark_cmp (mark_of x) (mark_of y)) m n
unfolding mark_cmp
mark_ties m n =
    ap₂ ◌&&◌ (point_cmp_ties m.low n.low) (ap₂ ◌&&◌ (point_cmp_ties m.high n.high) (number_ties m.curve.0 n.curve.0) ∙ both_equal (point_cmp m.high n.high) (nat_cmp m.curve.0 n.curve.0))
    ∙ both_equal (point_cmp m.low n.low) (ordering_then (point_cmp m.high n.high) (nat_cmp m.curve.0 n.curve.0))

-- a test of two points, of which the second was read
pub told_same : (p q r : Point) (b : Bool) → r ≡ q → b ≡ same_numbers p r → b ≡ same_point p q
told_same p q r b e is = is ∙ point_cmp_ties p r ∙ ap (same_point p) e

pub second_decides : (a b r s : Bool) → a ≡ true → a ≡ r → b ≡ s → b ≡ r && s
second_decides a b r s h e f = f ∙ sym (ap (λ t. t && s) (sym e ∙ h))

pub first_decides : (a r s : Bool) → a ≡ false → a ≡ r → a ≡ r && s
first_decides a r s h e = h ∙ sym (ap (λ t. t && s) (sym e ∙ h))
