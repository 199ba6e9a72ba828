-- Two sides that cross have one point in common, and where they have one strictly inside the first, they cross.
use Rattle.std.proofs.Common.{◌≡◌, ◌⊎◌, ◌*ℤ◌, true, false, refl, sym, ap, subst, inl, inr}
use Rattle.integers.proofs.Tests.{not_true}
use Rattle.integers.proofs.Decisions.{eq_in, eq_out}
use Rattle.exact_plane.specs.Line.{Line}
use Rattle.exact_plane.specs.Meet.{IsMeeting, IsOnlyCommon}
use Rattle.exact_plane.specs.Point.{Point, IsPoint}
use Rattle.exact_plane.specs.Segment.{Segment, line_of_segment, AreEnds}
use Rattle.exact_plane.specs.Span.{Span, LiesOn, IsSpan, span_of_segment}
use Rattle.exact_plane.specs.declared.meets.Meet.{Meet}
use Rattle.exact_plane.specs.declared.meets.Meet.TheVariants.{Apart, At, Along}
use Rattle.plane_graphs.specs.Line.{IsProper, are_parallel}
use Rattle.plane_graphs.proofs.Lines.{point_is_proper}
use Rattle.plane_graphs.proofs.Lists.{clash}
use Rattle.plane_graphs.proofs.Marks.{le_cases}
use Rattle.plane_graphs.proofs.Order.{Lt}
use Rattle.zone_walk.specs.Zone.{is_on_segment}
use Rattle.zone_walk.proofs.Courses.{course, lies_in, lies_out, one_line, parallel_itself}
use Rattle.zone_walk.proofs.InPlane.{in_plane}
use Rattle.zone_walk.proofs.LineCrossings.{crossing_proper, is_crossing}
use Rattle.zone_walk.proofs.Passing.{at_most_in, not_alone}
use Rattle.zone_walk.proofs.SeenSpans.{at_most_out}
use Rattle.path_zone.specs.PathZone.{IsCrossing}

-- a point of a side is one of its span
pub on_span : (s : Segment) (x : Point) → is_on_segment s x ≡ true → LiesOn (span_of_segment s) x
on_span s x h =
    let l = lies_out s x h in
    record { on = l.on; from = at_most_in s.lower x l.from.never; upto = at_most_in x s.upper l.upto.never }

pub span_on : (s : Segment) (x : Point) → LiesOn (span_of_segment s) x → is_on_segment s x ≡ true
span_on s x l = lies_in s x (record { on = l.on; from = at_most_out s.lower x l.from; upto = at_most_out x s.upper l.upto })

-- lines are parallel both ways
apart_back : (l m : Line) → are_parallel l m ≡ false → are_parallel m l ≡ false
apart_back l m h = not_true (are_parallel m l) (λ e. clash (eq_in (l.a *ℤ m.b) (m.a *ℤ l.b) (sym (eq_out (m.a *ℤ l.b) (l.a *ℤ m.b) e))) h)

-- what is one point is neither none nor a part of a line
pub not_one : (c : Meet) (x : Point) → c ≡ At x → (c ≡ Apart) ⊎ ((p : Point) × (q : Point) × (c ≡ Along p q)) → ⊥
not_one c x e (inl i) = cc
not_one c x e (inr (p, q, i)) = cc

module _ (s t : Segment) (P : IsSpan (span_of_segment s)) (Q : IsSpan (span_of_segment t)) where
  abbrev l : Line
  l = line_of_segment s

  abbrev m : Line
  m = line_of_segment t

  -- the crossing is a point of the plane within its bounds
  crossing_point : (x : Point) → IsCrossing s t x → IsPoint x
  crossing_point x h =
      let o = lies_out s x h.on_first in
      elim (le_cases s.lower x o.from) [
        | inl e ↦ subst IsPoint e P.lower
        | inr a ↦ elim (le_cases x s.upper o.upto) [
          | inl e ↦ subst IsPoint (sym e) P.upper
          | inr b ↦ in_plane (span_of_segment s) (span_of_segment t) P Q x (subst IsProper (sym h.point) (crossing_proper l m h.apart)) a b o.on (lies_out t x h.on_second).on (apart_back l m h.apart)
        ]
      ]

  crossed : (c : Meet) → IsMeeting (span_of_segment s) (span_of_segment t) c → (x : Point) → IsCrossing s t x → c ≡ At x
  crossed Apart k x h = absurd (k x (crossing_point x h) (on_span s x h.on_first) (on_span t x h.on_second))
  crossed (At p) k x h = ap At (sym (k.only x (crossing_point x h) (on_span s x h.on_first) (on_span t x h.on_second)))
  crossed (Along p q) k x h = clash (parallel_itself l m k.one_line) h.apart

  -- whatever two spans these are
  pub crossed_by : (p q : Span) (c : Meet) → p ≡ span_of_segment s → q ≡ span_of_segment t → IsMeeting p q c → (x : Point) → IsCrossing s t x → c ≡ At x
  crossed_by p q c e d k = crossed c (subst (λ (a : Span). IsMeeting a (span_of_segment t) c) e (subst (λ (b : Span). IsMeeting p b c) d k))

  pub only_by : (p q : Span) (c : Meet) (x : Point) → p ≡ span_of_segment s → q ≡ span_of_segment t → IsMeeting p q c → c ≡ At x → IsOnlyCommon (span_of_segment s) (span_of_segment t) x
  only_by p q c x e d k a = subst (IsMeeting (span_of_segment s) (span_of_segment t)) a (subst (λ (u : Span). IsMeeting u (span_of_segment t) c) e (subst (λ (u : Span). IsMeeting p u c) d k))

  module _ (S : AreEnds s) (T : AreEnds t) (x : Point) (k : IsOnlyCommon (span_of_segment s) (span_of_segment t) x) (low : Lt s.lower x) (high : Lt x s.upper) where
    proper : IsProper x
    proper = point_is_proper x k.point

    never : are_parallel l m ≡ true → ⊥
    never e =
        not_alone (span_of_segment t) (span_of_segment s) Q P (sym (one_line l m x (course s S).line (course t T).line proper k.on_first.on k.on_second.on e)) x
        (record { point = k.point; on_first = k.on_second; on_second = k.on_first; only = λ q hq a b. k.only q hq b a }) low high

    pub crosses : IsCrossing s t x
    crosses =
        let apart : are_parallel l m ≡ false = not_true (are_parallel l m) never in
        record {
          apart = apart;
          point = is_crossing l m apart x proper k.on_first.on k.on_second.on;
          on_first = span_on s x k.on_first;
          on_second = span_on t x k.on_second;
        }

-- crossing is mutual
pub crossing_back : (s t : Segment) (x : Point) → IsCrossing s t x → IsCrossing t s x
crossing_back s t x h =
    let apart = apart_back (line_of_segment s) (line_of_segment t) h.apart in
    record {
      apart = apart;
      point = is_crossing (line_of_segment t) (line_of_segment s) apart x (subst IsProper (sym h.point) (crossing_proper (line_of_segment s) (line_of_segment t) h.apart)) (lies_out t x h.on_second).on (lies_out s x h.on_first).on;
      on_first = h.on_second;
      on_second = h.on_first;
    }

-- no side crosses itself
pub crosses_other : (s : Segment) (x : Point) → IsCrossing s s x → ⊥
crosses_other s x h = clash (parallel_itself (line_of_segment s) (line_of_segment s) refl) h.apart
