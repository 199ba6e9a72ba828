-- The test of two points of a line in order, and what it says.
use Rattle.std.proofs.Common.{◌≡◌, true, ◌&&◌, pos}
use Rattle.std.specs.Ordering.{int_eq, is_lt}
use Rattle.integers.proofs.Decisions.{both, eq_out}
use Rattle.integers.proofs.Tests.{is_less}
use Rattle.exact_plane.specs.Line.{Line, side_of}
use Rattle.exact_plane.specs.Point.{Point}
use Rattle.exact_plane.specs.PointOrder.{point_cmp}
use Rattle.exact_plane.specs.Span.{are_on_way, AreOnWay}

pub way_of_test : (p q : Point) (l : Line) → are_on_way p q l ≡ true → AreOnWay p q l
way_of_test p q l h =
    let a = both (is_lt (point_cmp p q)) (int_eq (side_of l p) (pos 0) && int_eq (side_of l q) (pos 0)) h in
    let b = both (int_eq (side_of l p) (pos 0)) (int_eq (side_of l q) (pos 0)) a.1 in
    record { ascending = is_less (point_cmp p q) a.0; lower_on = eq_out _ _ b.0; upper_on = eq_out _ _ b.1 }
