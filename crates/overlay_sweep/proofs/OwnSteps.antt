-- On a piece the stretch that ends at a vertex of it.
use Rattle.std.proofs.Common.{◌≡◌, ℕ, ◌<◌, ◌≤◌, Bool, arith, ap, subst, sym, inl, inr, List, length, is_lt}
use Rattle.std.specs.Prelude.{◌&&◌}
use Rattle.std.proofs.lemmas.Bool.{cases_lt}
use Rattle.exact_plane.specs.Point.{Point}
use Rattle.exact_plane.specs.PointOrder.{point_cmp}
use Rattle.exact_plane.specs.PointOrderLaws.{and_true}
use Rattle.exact_plane.specs.Span.{Span, LiesOn, IsAtMost}
use Rattle.exact_plane.proofs.Orders.{at_most_itself, less_at_most}
use Rattle.plane_graphs.specs.Ascending.{Member}
use Rattle.plane_graphs.specs.Line.{precedes}
use Rattle.plane_graphs.proofs.Closed.{IsLast, last_passing}
use Rattle.plane_graphs.proofs.Lists.{and_in}
use Rattle.plane_graphs.proofs.Marks.{Le}
use Rattle.plane_graphs.proofs.Order.{Lt, lt_in, lt_out}
use Rattle.plane_graphs.proofs.Sorting.{rises}
use Rattle.present_graphs.specs.Spans.{lies_on}
use Rattle.present_graphs.proofs.OnSpans.{lies_on_in, lies_on_out}
use Rattle.sweep_events.specs.Places.{piece_at}
use Rattle.sweep_graphs.specs.declared.trace.Stretch.{Stretch}
use Rattle.sweep_graphs.specs.declared.trace.Trace.{Trace}
use Rattle.sweep_graphs.specs.Traces.{point_at, no_point, IsStep, IsTrace}

module _ (ps : List Span) (pins : List Point) (t : Trace) (h : IsTrace ps pins t) where
  abbrev Step : ℕ → Point → Point → Type 0
  Step i a b = IsStep (piece_at ps) (length ps) pins i a b

  -- a lesser place has no later point
  pub point_upto : (j k : ℕ) → j ≤ k → k < length t.points → IsAtMost (point_at t.points j) (point_at t.points k)
  point_upto j k l b = elim (cases_lt j k) [
    | inl d ↦ less_at_most (point_at t.points j) (point_at t.points k) (rises point_cmp t.points h.ascends j k no_point d b)
    | inr d ↦ (let e : j ≡ k = omega arith in subst (λ i. IsAtMost (point_at t.points j) (point_at t.points i)) e (at_most_itself (point_at t.points j)))
  ]

  -- of two vertices on a piece a stretch of the piece ends at the later one, and doesn't begin before the earlier one
  module _ (i : ℕ) (within : i < length ps) (a b : Point) (A : Member a t.points) (B : Member b t.points) (on_a : LiesOn (piece_at ps i) a) (on_b : LiesOn (piece_at ps i) b) (ahead : Lt a b) where
    is_before : Point → Bool
    is_before v = lies_on (piece_at ps i) v && precedes v b

    record IsStepTo (x : Point) : Type 0 where
      step : Step i x b
      from : Le a x
      upto : Lt x b

    last_before : (x : Point) × IsLast is_before t.points x
    unfolding is_before
    last_before = last_passing is_before t.points (a, A, and_in (lies_on_in (piece_at ps i) a on_a) (lt_in ahead))

    step_to : (x : Point) × IsStepTo x
    unfolding is_before
    step_to =
        let x = last_before in
        let u = and_true (lies_on (piece_at ps i) x.0) (precedes x.0 b) x.1.passes in
        let low = lt_out x.0 b u.1 in (
          x.0,
          record {
            step = record {
              within = within;
              first = ((h.points_are x.0).0 x.1.here, lies_on_out (piece_at ps i) x.0 u.0);
              second = ((h.points_are b).0 B, on_b);
              ahead = low.is;
              none = λ r R c d. (x.1.last r ((h.points_are r).1 R.0) (and_in (lies_on_in (piece_at ps i) r R.1) (ap is_lt d))).never (record { is = c });
            };
            from = x.1.last a A (and_in (lies_on_in (piece_at ps i) a on_a) (lt_in ahead));
            upto = low;
          },
        )

    pub record IsStretchTo (s : Stretch) : Type 0 where
      pub among : Member s t.stretches
      pub ends : point_at t.points s.high ≡ b
      pub from : Le a (point_at t.points s.low)
      pub upto : Lt (point_at t.points s.low) b
      pub on : LiesOn (piece_at ps i) (point_at t.points s.low)

    pub stretch_to : (s : Stretch) × IsStretchTo s
    stretch_to =
        let k = step_to in
        let s = h.complete i k.0 b k.1.step in (
          s.0,
          record {
            among = s.1;
            ends = s.4;
            from = subst (Le a) (sym s.3) k.1.from;
            upto = subst (λ z. Lt z b) (sym s.3) k.1.upto;
            on = subst (LiesOn (piece_at ps i)) (sym s.3) k.1.step.first.1;
          },
        )
