-- A point beyond one side of the box of a side isn't on the side.
use Rattle.std.proofs.Common.{◌≡◌, true, false, not, ◌&&◌, subst}
use Rattle.integers.proofs.Decisions.{both, eq_out}
use Rattle.integers.proofs.Tests.{not_true}
use Rattle.exact_plane.specs.Point.{Point, IsPoint}
use Rattle.exact_plane.specs.Segment.{Segment, line_of_segment}
use Rattle.exact_plane.specs.Span.{span_of_segment, IsSpan}
use Rattle.exact_plane.specs.declared.whole_parts.BoundingBox.{BoundingBox}
use Rattle.exact_plane.specs.WholeParts.{bounding_box, excludes, whole_parts}
use Rattle.exact_plane.proofs.Meetings.{runs}
use Rattle.exact_plane.proofs.Orders.{at_most_itself}
use Rattle.exact_plane.proofs.WholeOrders.{IsAlong, boxed}
use Rattle.plane_graphs.specs.Line.{is_on, precedes}
use Rattle.plane_graphs.proofs.Order.{at_most_out}
use Rattle.side_parts.specs.SideParts.{holds}

module _ (s : Segment) (w : IsSpan (span_of_segment s)) (p : Point) (P : IsPoint p) where
  along : holds s p ≡ true → IsAlong (line_of_segment s) s.lower s.upper p
  along h =
      let a = both (is_on (line_of_segment s) p) (not (precedes p s.lower) && not (precedes s.upper p)) h in
      let b = both (not (precedes p s.lower)) (not (precedes s.upper p)) a.1 in
      record { runs = runs _ _ w.line.runs; low_is = w.lower.range.positive; high_is = w.upper.range.positive; is = P.range.positive; low_on = w.way.lower_on; high_on = w.way.upper_on; on = eq_out _ _ a.0; from = at_most_out s.lower p b.0; upto = at_most_out p s.upper b.1 }

  -- the part of the line that is the point alone
  alone : IsAlong (line_of_segment s) s.lower s.upper p → IsAlong (line_of_segment s) p p p
  alone k = record { runs = k.runs; low_is = k.is; high_is = k.is; is = k.is; low_on = k.on; high_on = k.on; on = k.on; from = at_most_itself p; upto = at_most_itself p }

  pub outside : (b : BoundingBox) → b ≡ bounding_box (span_of_segment s) → excludes b (whole_parts p) (whole_parts p) ≡ true → holds s p ≡ false
  outside b i o =
      let e = subst (λ c. excludes c (whole_parts p) (whole_parts p) ≡ true) i o in
      not_true (holds s p) (λ h. let k = along h in boxed (span_of_segment s) (line_of_segment s) p p p k (alone k) e)
