-- The points of an edge are on its line between its ends; where both ends are beyond one side of the box of a segment, none is a meeting point.
use Rattle.std.proofs.Common.{◌≡◌, true, sym, ◌∙◌, subst, inl, inr, ⊎_elim}
use Rattle.exact_plane.specs.Line.{IsOn}
use Rattle.exact_plane.specs.Point.{Point}
use Rattle.exact_plane.specs.Segment.{Segment, line_of_segment}
use Rattle.exact_plane.specs.Span.{span_of_segment}
use Rattle.plane_graphs.specs.Line.{IsProper}
use Rattle.exact_plane.proofs.Orders.{at_most_itself, less_at_most}
use Rattle.slab_laws.specs.Sound.{edge_in, IsGraphSound}
use Rattle.slab_laws.specs.View.{View, HasDart, point_in, source_in, target_in, line_in}
use Rattle.slab_laws.specs.declared.names.DartId.{DartId}
use Rattle.locate_naive.proofs.Within.{low_proper, high_proper, inside_within}
use Rattle.zone_walk.specs.Searches.{IsOnEdge}
use Rattle.zone_walk.specs.Sights.{span_in}
use Rattle.exact_plane.specs.WholeParts.{bounding_box, excludes, whole_parts}
use Rattle.exact_plane.proofs.WholeOrders.{IsAlong, boxed, boxed_back}
use Rattle.zone_walk.proofs.Courses.{IsCourse}
use Rattle.zone_walk.proofs.MeetingPoints.{MeetsAt}
use Rattle.zone_walk.proofs.Passing.{at_most_in}
use Rattle.zone_walk.proofs.SeenSpans.{ascend, both_ends, ends_are}
use Rattle.zone_walk.proofs.Stretches.{meets_lies, meets_proper}

module _ (v : View) (s : IsGraphSound v) (d : DartId) (has : HasDart v d) where
  abbrev from : Point
  from = point_in v (source_in v d)

  abbrev to : Point
  to = point_in v (target_in v d)

  abbrev low : Point
  low = (span_in v d).lower

  abbrev high : Point
  high = (span_in v d).upper

  -- ---- a point on the edge
  abbrev Along : Point → Type 0
  Along p = IsAlong (line_in v d) low high p

  proper : IsProper low × IsProper high
  proper = both_ends v s d has IsProper (low_proper v s d has) (high_proper v s d has)

  on : IsOn (line_in v d) low × IsOn (line_in v d) high
  on = both_ends v s d has (IsOn (line_in v d)) (s.drawn.starts d has) (s.drawn.ends d has)

  at_low : Along low
  at_low = record { runs = (s.drawn.line d has).runs; low_is = proper.0.positive; high_is = proper.1.positive; is = proper.0.positive; low_on = on.0; high_on = on.1; on = on.0; from = at_most_itself low; upto = less_at_most low high (ascend v s d has).is }

  at_high : Along high
  at_high = record { runs = (s.drawn.line d has).runs; low_is = proper.0.positive; high_is = proper.1.positive; is = proper.1.positive; low_on = on.0; high_on = on.1; on = on.1; from = less_at_most low high (ascend v s d has).is; upto = at_most_itself high }

  pub along : (p : Point) → IsProper p → IsOnEdge v d p → Along p
  along p P (inl e) = ⊎_elim (λ w. subst Along (sym (e ∙ w.0)) at_low) (λ w. subst Along (sym (e ∙ w.1)) at_high) (ends_are v s d has)
  along p P (inr (inl e)) = ⊎_elim (λ w. subst Along (sym (e ∙ w.1)) at_high) (λ w. subst Along (sym (e ∙ w.0)) at_low) (ends_are v s d has)
  along p P (inr (inr i)) =
      let w = inside_within (line_in v d) (edge_in v d) p (s.drawn.line d has) proper.0 proper.1 P on.0 on.1 i in
      record { runs = (s.drawn.line d has).runs; low_is = proper.0.positive; high_is = proper.1.positive; is = P.positive; low_on = on.0; high_on = on.1; on = w.on; from = less_at_most low p w.after.is; upto = less_at_most p high w.before.is }

  -- ---- and on a segment
  module _ (g : Segment) (c : IsCourse g) (out : excludes (bounding_box (span_of_segment g)) (whole_parts from) (whole_parts to) ≡ true) where
    -- the segment's own part
    course : (p : Point) → MeetsAt v g p → IsAlong (line_of_segment g) g.lower g.upper p
    course p m =
        let l = meets_lies v s g c p m in
        record { runs = c.line.runs; low_is = c.lower.positive; high_is = c.upper.positive; is = (meets_proper v s g c p m).positive; low_on = c.lower_on; high_on = c.upper_on; on = l.on; from = at_most_in g.lower p l.from.never; upto = at_most_in p g.upper l.upto.never }

    pub outside_missed : (p : Point) → MeetsAt v g p → IsOnEdge v d p → ⊥
    outside_missed p m o =
        let k = along p (meets_proper v s g c p m) o in
        ⊎_elim
        (λ w. boxed (span_of_segment g) (line_in v d) low high p (course p m) k ((λ i. excludes (bounding_box (span_of_segment g)) (whole_parts (sym w.0 i)) (whole_parts (sym w.1 i))) ∙ out))
        (λ w. boxed_back (span_of_segment g) (line_in v d) low high p (course p m) k ((λ i. excludes (bounding_box (span_of_segment g)) (whole_parts (sym w.1 i)) (whole_parts (sym w.0 i))) ∙ out))
        (ends_are v s d has)
