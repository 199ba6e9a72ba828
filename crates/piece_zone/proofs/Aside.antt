-- A span with both ends on one side of another one's line has no point in common with it.
use Rattle.std.proofs.Common.{◌≡◌, pos, ◌<ℤ◌, arith, sym, ap, ◌∙◌, inl, inr, ⊎_elim}
use Rattle.std.proofs.lemmas.Int.{ints}
use Rattle.exact_plane.specs.Line.{Line, side_of, IsOn}
use Rattle.exact_plane.specs.Meet.{AreApart}
use Rattle.exact_plane.specs.Plane.{RunsForward}
use Rattle.exact_plane.specs.Point.{Point, IsPoint}
use Rattle.exact_plane.specs.Span.{Span, LiesOn, IsSpan}
use Rattle.exact_plane.proofs.Meetings.{runs}
use Rattle.plane_graphs.proofs.Lines.{point_is_proper}
use Rattle.plane_graphs.proofs.Marks.{le_cases}
use Rattle.zone_walk.proofs.InPlane.{falls, rises}
use Rattle.zone_walk.proofs.SeenSpans.{at_most_out}
use Rattle.piece_zone.specs.Told.{AreAside}

module _ (m : Line) (t : Span) (T : IsSpan t) (r : Point) (R : IsPoint r) (on_m : IsOn m r) (b : LiesOn t r) where
  own : RunsForward t.line.a t.line.b
  own = runs t.line.a t.line.b T.line.runs

  not_left : pos 0 <ℤ side_of m t.lower → pos 0 <ℤ side_of m t.upper → ⊥
  not_left x y = elim (le_cases t.lower r (at_most_out t.lower r b.from)) [
    | inl e ↦ let z : side_of m t.lower ≡ pos 0 = ap (side_of m) e ∙ on_m in omega (arith, ints)
    | inr k ↦ elim (le_cases r t.upper (at_most_out r t.upper b.upto)) [
      | inl e ↦ let z : side_of m t.upper ≡ pos 0 = ap (side_of m) (sym e) ∙ on_m in omega (arith, ints)
      | inr l ↦
          let n = falls t.line m own t.lower t.upper r (point_is_proper t.lower T.lower) (point_is_proper t.upper T.upper) (point_is_proper r R) T.way.lower_on T.way.upper_on b.on k l on_m x in
          omega (arith, ints)
    ]
  ]

  not_right : side_of m t.lower <ℤ pos 0 → side_of m t.upper <ℤ pos 0 → ⊥
  not_right x y = elim (le_cases t.lower r (at_most_out t.lower r b.from)) [
    | inl e ↦ let z : side_of m t.lower ≡ pos 0 = ap (side_of m) e ∙ on_m in omega (arith, ints)
    | inr k ↦ elim (le_cases r t.upper (at_most_out r t.upper b.upto)) [
      | inl e ↦ let z : side_of m t.upper ≡ pos 0 = ap (side_of m) (sym e) ∙ on_m in omega (arith, ints)
      | inr l ↦
          let n = rises t.line m own t.lower t.upper r (point_is_proper t.lower T.lower) (point_is_proper t.upper T.upper) (point_is_proper r R) T.way.lower_on T.way.upper_on b.on k l on_m x in
          omega (arith, ints)
    ]
  ]

pub aside : (s t : Span) → IsSpan t → AreAside s.line t.lower t.upper → AreApart s t
aside s t T h r R a b = ⊎_elim (λ w. not_left s.line t T r R a.on b w.0 w.1) (λ w. not_right s.line t T r R a.on b w.0 w.1) h
