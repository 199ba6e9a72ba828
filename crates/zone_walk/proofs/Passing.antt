-- Where a whole segment and the span of an edge meet in one point inside the edge, the segment passes through the edge there, and nowhere else.
use Rattle.std.proofs.Common.{◌≡◌, arith, is_lt, true, false, not, ◌&&◌, ℤ, pos, ◌*ℤ◌, sym, ap, ◌∙◌, subst}
use lib.Signed.{lt_z}
use Rattle.std.proofs.lemmas.Int.{ints}
use Rattle.integers.proofs.Compare.{equal_in, equal_out}
use Rattle.integers.proofs.Tests.{not_true}
use Rattle.exact_plane.specs.Line.{Line, side_of, IsOn}
use Rattle.exact_plane.specs.Meet.{IsOnlyCommon}
use Rattle.exact_plane.specs.MeetOf.{later, earlier}
use Rattle.exact_plane.specs.Point.{Point, IsPoint}
use Rattle.exact_plane.specs.Segment.{Segment, line_of_segment}
use Rattle.exact_plane.specs.Span.{Span, IsAtMost, LiesOn, IsSpan}
use Rattle.exact_plane.proofs.Meetings.{parallel_one}
use Rattle.exact_plane.proofs.Orders.{at_most_itself, at_most_chain, at_most_both, less_at_most, later_keeps, earlier_keeps, from_later, to_later, upto_earlier, to_earlier}
use Rattle.exact_plane.specs.PointOrderLaws.{and_true}
use Rattle.plane_graphs.specs.Line.{IsProper, precedes, is_on, are_parallel}
use Rattle.plane_graphs.proofs.Lines.{point_is_proper, zero_out, zero_in, apart_out}
use Rattle.plane_graphs.proofs.Lists.{not_out, clash}
use Rattle.plane_graphs.proofs.Order.{Lt, Tri, tri, less, same, more, lt_never}
use Rattle.slab_faces.proofs.InnerPoints.{before_out}
use Rattle.edge_predicates.proofs.Sides.{side_same}
use Rattle.slab_laws.specs.declared.names.DartId.{DartId}
use Rattle.slab_laws.specs.SpansDrawn.{edge_of}
use Rattle.slab_laws.specs.Skeleton as counted
use Rattle.slab_laws.specs.Sound.{edge_in}
use Rattle.slab_laws.specs.View.{View, line_in}
use Rattle.zone_walk.specs.Found.{ends_of, IsWhole, IsPassAt, IsInnerMeeting}
use Rattle.zone_walk.proofs.InPlane.{in_plane}
use Rattle.zone_walk.proofs.LineCrossings.{crossing_proper, is_crossing}
use Rattle.zone_walk.proofs.MeetingPoints.{IsPassed, passes_one, on_by}

-- ---- orders
pub at_most_never : (p q : Point) → IsAtMost p q → Lt q p → ⊥
at_most_never p q h l = lt_never (subst (λ (x : Point). Lt q x) (at_most_both p q h (less_at_most q p l.is)) l)

pub at_most_in : (p q : Point) → (Lt q p → ⊥) → IsAtMost p q
at_most_in p q f = step (tri p q)
  where
    step : Tri p q → IsAtMost p q
    step (less l) = less_at_most p q l.is
    step (same e) = subst (λ (x : Point). IsAtMost p x) e (at_most_itself p)
    step (more l) = absurd (f l)

-- ---- spans of one line don't share a point inside one of them alone
module _ (s t : Span) (hs : IsSpan s) (ht : IsSpan t) (one_line : s.line ≡ t.line) (p : Point) (h : IsOnlyCommon s t p) (low : Lt t.lower p) (high : Lt p t.upper) where
  common : (q : Point) → IsPoint q → IsOn t.line q → IsAtMost s.lower q → IsAtMost t.lower q → IsAtMost q s.upper → IsAtMost q t.upper → q ≡ p
  common q hq on a b c d = h.only q hq (record { on = subst (λ (l : Line). IsOn l q) (sym one_line) on; from = a; upto = c }) (record { on = on; from = b; upto = d })

  not_after : Lt s.lower p → ⊥
  not_after l =
      let q : Point = later s.lower t.lower in
      let from = from_later s.lower t.lower q (at_most_itself q) in
      let upto : IsAtMost q p = to_later s.lower t.lower p (less_at_most s.lower p l.is) (less_at_most t.lower p low.is) in
      let e = common q (later_keeps IsPoint s.lower t.lower hs.lower ht.lower) (later_keeps (IsOn t.line) s.lower t.lower (subst (λ (k : Line). IsOn k s.lower) one_line hs.way.lower_on) ht.way.lower_on)
      from.0 from.1 (at_most_chain q p s.upper upto h.on_first.upto) (at_most_chain q p t.upper upto h.on_second.upto) in
      lt_never (subst (λ (x : Point). Lt x p) e (later_keeps (λ x. Lt x p) s.lower t.lower l low))

  not_before : Lt p s.upper → ⊥
  not_before l =
      let q : Point = earlier s.upper t.upper in
      let upto = upto_earlier s.upper t.upper q (at_most_itself q) in
      let from : IsAtMost p q = to_earlier s.upper t.upper p (less_at_most p s.upper l.is) (less_at_most p t.upper high.is) in
      let e = common q (earlier_keeps IsPoint s.upper t.upper hs.upper ht.upper) (earlier_keeps (IsOn t.line) s.upper t.upper (subst (λ (k : Line). IsOn k s.upper) one_line hs.way.upper_on) ht.way.upper_on)
      (at_most_chain s.lower p q h.on_first.from from) (at_most_chain t.lower p q h.on_second.from from) upto.0 upto.1 in
      lt_never (subst (λ (x : Point). Lt p x) e (earlier_keeps (λ x. Lt p x) s.upper t.upper l high))

  pub not_alone : ⊥
  not_alone =
      let starts : p ≡ s.lower = at_most_both p s.lower (at_most_in p s.lower not_after) h.on_first.from in
      not_before (subst (λ (x : Point). Lt x s.upper) (sym starts) (record { is = hs.way.ascending }))

-- ---- a point inside an edge is on the line of its span, between the ends
pub record IsWithin (t : Span) (p : Point) : Type 0 where
  pub low : Lt t.lower p
  pub high : Lt p t.upper
  pub on : IsOn t.line p

zero_by : (z : ℤ) → not (lt_z z (pos 0)) && not (lt_z (pos 0) z) ≡ true → z ≡ pos 0
zero_by z h =
    let a = and_true (not (lt_z z (pos 0))) (not (lt_z (pos 0) z)) h in
    let b : lt_z z (pos 0) ≡ false = not_out (lt_z z (pos 0)) a.0 in
    let c : lt_z (pos 0) z ≡ false = not_out (lt_z (pos 0) z) a.1 in
    omega (arith, ints)

pub within_out : (t : Span) → IsSpan t → (p : Point) → IsProper p → counted.inside (edge_of t) p ≡ true → IsWithin t p
within_out t is p proper h =
    let a = and_true (counted.precedes t.lower p && counted.precedes p t.upper) (not (lt_z (counted.side (edge_of t) p) (pos 0)) && not (lt_z (pos 0) (counted.side (edge_of t) p))) h in
    let b = and_true (counted.precedes t.lower p) (counted.precedes p t.upper) a.0 in
    record {
      low = before_out t.lower p (point_is_proper t.lower is.lower) proper b.0;
      high = before_out p t.upper proper (point_is_proper t.upper is.upper) b.1;
      on = equal_out (side_of t.line p) (pos 0) (sym (side_same t is p) ∙ equal_in (counted.side (edge_of t) p) (pos 0) (zero_by (counted.side (edge_of t) p) a.1));
    }

-- ---- what is said of the whole segment and the edge's span
module _ (v : View) (d : DartId) (whole span : Span) (all : IsWhole whole) (is_span : IsSpan span) (edge : edge_of span ≡ edge_in v d) (line : span.line ≡ line_in v d) where
  abbrev s : Segment
  s = ends_of whole

  crosses_too : are_parallel (line_of_segment s) (line_in v d) ≡ are_parallel whole.line span.line
  crosses_too = λ i. are_parallel (sym all.line i) (sym line i)

  pub passed_lies : (p : Point) → IsPassed v s d p → IsPoint p × LiesOn whole p × LiesOn span p
  passed_lies p h =
      let c : are_parallel whole.line span.line ≡ false = sym crosses_too ∙ h.crosses in
      let proper : IsProper p = subst IsProper (sym h.crossing) (crossing_proper (line_of_segment s) (line_in v d) h.crosses) in
      let w : IsWithin span p = within_out span is_span p proper (ap (λ e. counted.inside e p) edge ∙ h.inner) in
      let a = and_true (is_on (line_of_segment s) p) (not (precedes p s.lower) && not (precedes s.upper p)) h.on_segment in
      let b = and_true (not (precedes p s.lower)) (not (precedes s.upper p)) a.1 in
      let on : IsOn whole.line p = subst (λ (l : Line). IsOn l p) (sym all.line) (zero_out (side_of (line_of_segment s) p) a.0) in (
        in_plane span whole is_span all.span p proper w.low w.high w.on on c,
        record {
          on = on;
          from = at_most_in whole.lower p (λ l. clash (ap is_lt l.is) (not_out (precedes p s.lower) b.0));
          upto = at_most_in p whole.upper (λ l. clash (ap is_lt l.is) (not_out (precedes s.upper p) b.1));
        },
        record { on = w.on; from = less_at_most span.lower p w.low.is; upto = less_at_most p span.upper w.high.is },
      )

  module _ (p : Point) (h : IsInnerMeeting whole span p) where
    proper : IsProper p
    proper = point_is_proper p h.meeting.point

    not_parallel : are_parallel whole.line span.line ≡ true → ⊥
    not_parallel e =
        let k = h.meeting in
        let w : IsWithin span p = within_out span is_span p proper h.inner in
        let one = parallel_one whole.line span.line p all.span.line is_span.line k.point.range.positive (apart_out (whole.line.a *ℤ span.line.b) (span.line.a *ℤ whole.line.b) e) k.on_first.on k.on_second.on in
        not_alone whole span all.span is_span one p k w.low w.high

    pub passed_at : IsPassAt v s d p
    passed_at =
        let k = h.meeting in
        let c : are_parallel (line_of_segment s) (line_in v d) ≡ false = crosses_too ∙ not_true (are_parallel whole.line span.line) not_parallel in
        let on : IsOn (line_of_segment s) p = subst (λ (l : Line). IsOn l p) all.line k.on_first.on in
        record {
          one = passes_one v s d p (record {
            crosses = c;
            crossing = is_crossing (line_of_segment s) (line_in v d) c p proper on (subst (λ (l : Line). IsOn l p) line k.on_second.on);
            on_segment = on_by s p (zero_in (side_of (line_of_segment s) p) on) (at_most_never whole.lower p k.on_first.from) (at_most_never p whole.upper k.on_first.upto);
            inner = ap (λ e. counted.inside e p) (sym edge) ∙ h.inner;
          });
        }
