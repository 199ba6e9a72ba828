-- The course of a segment along its line, and lines that are one.
use Rattle.std.proofs.Common.{◌≡◌, true, not, ◌&&◌, ◌*ℤ◌, refl, sym, ap, ◌∙◌, subst, ⊎_elim}
use Rattle.integers.proofs.Decisions.{eq_in}
use Rattle.std.specs.Ordering.{int_eq}
use Rattle.exact_plane.specs.Line.{Line, side_of, IsOn}
use Rattle.exact_plane.specs.Point.{Point}
use Rattle.exact_plane.specs.PointOrder.{point_cmp}
use Rattle.exact_plane.specs.Segment.{Segment, line_of_segment, AreEnds}
use Rattle.plane_graphs.specs.Line.{IsProper, IsProperLine, IsWhole, precedes, is_on, are_parallel}
use Rattle.plane_graphs.proofs.Lines.{whole_is_proper, line_of_segment-runs, line_of_segment-lowest, lower_on, upper_on, zero_out, zero_in, apart_out}
use Rattle.plane_graphs.proofs.Lists.{and_in, decide}
use Rattle.plane_graphs.proofs.Marks.{Le, le_out, le_in, le_same, le_lt}
use Rattle.plane_graphs.proofs.Order.{Lt, lt_never}
use Rattle.exact_plane.proofs.Crossings.{parallel_share, same_line}
use Rattle.exact_plane.specs.PointOrderLaws.{and_true}
use Rattle.zone_walk.specs.Zone.{is_on_segment}
use Rattle.zone_walk.proofs.LineCrossings.{is_crossing}

-- ---- a segment's line
pub record IsCourse (s : Segment) : Type 0 where
  pub line : IsProperLine (line_of_segment s)
  pub lower : IsProper s.lower
  pub upper : IsProper s.upper
  pub lower_on : IsOn (line_of_segment s) s.lower
  pub upper_on : IsOn (line_of_segment s) s.upper
  pub ahead : Lt s.lower s.upper

pub course : (s : Segment) → AreEnds s → IsCourse s
course s e =
    let low : IsWhole s.lower = ap (λ (t : Segment). t.lower.w) e.whole in
    let high : IsWhole s.upper = ap (λ (t : Segment). t.upper.w) e.whole in
    let l : Lt s.lower s.upper = record { is = ap (λ (t : Segment). point_cmp t.lower t.upper) e.whole ∙ e.is.ascending } in
    record {
      line = record { lowest = line_of_segment-lowest s low high l; runs = line_of_segment-runs s low high l };
      lower = whole_is_proper s.lower low;
      upper = whole_is_proper s.upper high;
      lower_on = lower_on s low high l;
      upper_on = upper_on s low high l;
      ahead = l;
    }

pub record LiesOn (s : Segment) (t : Point) : Type 0 where
  pub on : IsOn (line_of_segment s) t
  pub from : Le s.lower t
  pub upto : Le t s.upper

pub lies_out : (s : Segment) (t : Point) → is_on_segment s t ≡ true → LiesOn s t
lies_out s t h =
    let a = and_true (is_on (line_of_segment s) t) (not (precedes t s.lower) && not (precedes s.upper t)) h in
    let b = and_true (not (precedes t s.lower)) (not (precedes s.upper t)) a.1 in
    record { on = zero_out (side_of (line_of_segment s) t) a.0; from = le_out s.lower t b.0; upto = le_out t s.upper b.1 }

pub lies_in : (s : Segment) (t : Point) → LiesOn s t → is_on_segment s t ≡ true
lies_in s t h = and_in (zero_in (side_of (line_of_segment s) t) h.on) (and_in (le_in h.from) (le_in h.upto))

pub lower_lies : (s : Segment) → IsCourse s → LiesOn s s.lower
lower_lies s c = record { on = c.lower_on; from = le_same s.lower; upto = le_lt c.ahead }

pub upper_lies : (s : Segment) → IsCourse s → LiesOn s s.upper
upper_lies s c = record { on = c.upper_on; from = le_lt c.ahead; upto = le_same s.upper }

-- ---- two lines that share a point and are parallel are one
pub one_line : (l m : Line) (t : Point) → IsProperLine l → IsProperLine m → IsProper t → IsOn l t → IsOn m t → are_parallel l m ≡ true → l ≡ m
one_line l m t L M T x y e =
    let w = apart_out (l.a *ℤ m.b) (m.a *ℤ l.b) e in
    let o = parallel_share l.a l.b l.c m.a m.b m.c t.x t.y t.w T.positive w x y in
    let s = same_line l.a l.b l.c m.a m.b m.c L.lowest M.lowest L.runs M.runs w o.0 o.1 in
    λ i. record { a = s.0 i; b = s.1 i; c = s.2 i }

-- two lines with two common points are one
pub one_by_two : (l m : Line) (p q : Point) → IsProperLine l → IsProperLine m → IsProper p → IsProper q → Lt p q → IsOn l p → IsOn m p → IsOn l q → IsOn m q → l ≡ m
one_by_two l m p q L M P Q k a b c d =
    ⊎_elim
    (λ z. one_line l m p L M P a b z)
    (λ z. absurd (lt_never (subst (Lt p) (is_crossing l m z q Q c d ∙ sym (is_crossing l m z p P a b)) k)))
    (decide (are_parallel l m))

pub parallel_itself : (l m : Line) → l ≡ m → are_parallel l m ≡ true
parallel_itself l m e = ap (λ (n : Line). are_parallel l n) (sym e) ∙ eq_in (l.a *ℤ l.b) (l.a *ℤ l.b) refl

-- ---- what a test of two lines tells
pub line-itself : (l m : Line) → l ≡ m → int_eq l.a m.a && (int_eq l.b m.b && int_eq l.c m.c) ≡ true
line-itself l m e = and_in (eq_in l.a m.a (ap (λ (n : Line). n.a) e)) (and_in (eq_in l.b m.b (ap (λ (n : Line). n.b) e)) (eq_in l.c m.c (ap (λ (n : Line). n.c) e)))
