-- What is said of two spans by points within bounds holds of all proper points.
use Rattle.std.proofs.Common.{◌≡◌, true, false, ◌*ℤ◌, sym, ◌∙◌, subst, inl, inr, ◌⊎◌, ⊎_elim}
use Rattle.exact_plane.specs.Line.{Line, IsOn}
use Rattle.exact_plane.specs.Meet.{AreApart, IsOnlyCommon, IsCommonPart}
use Rattle.exact_plane.specs.MeetOf.{later, earlier}
use Rattle.exact_plane.specs.Point.{Point, IsPoint}
use Rattle.exact_plane.specs.Span.{Span, IsAtMost, LiesOn, IsSpan}
use Rattle.exact_plane.proofs.Meetings.{parallel_one}
use Rattle.exact_plane.proofs.Orders.{at_most_itself, at_most_chain, at_most_both, less_at_most, later_keeps, earlier_keeps, from_later, to_later, upto_earlier, to_earlier}
use Rattle.plane_graphs.specs.Line.{IsProper, are_parallel}
use Rattle.plane_graphs.proofs.Lines.{apart_out}
use Rattle.plane_graphs.proofs.Lists.{decide}
use Rattle.plane_graphs.proofs.Marks.{le_cases}
use Rattle.zone_walk.proofs.InPlane.{in_plane}
use Rattle.zone_walk.proofs.SeenSpans.{at_most_out}

-- the first point of a common part lies on both
pub part_starts : (s t : Span) (a b : Point) → IsCommonPart s t a b → LiesOn s a × LiesOn t a
part_starts s t a b h = (h.common a h.part.lower).1 (record { on = h.part.way.lower_on; from = at_most_itself a; upto = less_at_most a b h.part.way.ascending })

module _ (s t : Span) (S : IsSpan s) (T : IsSpan t) (q : Point) (Q : IsProper q) (on_s : LiesOn s q) (on_t : LiesOn t q) where
  -- ---- where both are on one line, they have the later of their lower ends, and the earlier of their upper ends
  abbrev first : Point
  first = later s.lower t.lower

  abbrev last : Point
  last = earlier s.upper t.upper

  first_upto : IsAtMost first q
  first_upto = to_later s.lower t.lower q on_s.from on_t.from

  last_from : IsAtMost q last
  last_from = to_earlier s.upper t.upper q on_s.upto on_t.upto

  module _ (one : s.line ≡ t.line) where
    first_is : IsPoint first
    first_is = later_keeps IsPoint s.lower t.lower S.lower T.lower

    last_is : IsPoint last
    last_is = earlier_keeps IsPoint s.upper t.upper S.upper T.upper

    on_first : IsOn s.line first
    on_first = later_keeps (IsOn s.line) s.lower t.lower S.way.lower_on (subst (λ (l : Line). IsOn l t.lower) (sym one) T.way.lower_on)

    on_last : IsOn s.line last
    on_last = earlier_keeps (IsOn s.line) s.upper t.upper S.way.upper_on (subst (λ (l : Line). IsOn l t.upper) (sym one) T.way.upper_on)

    first_common : LiesOn s first × LiesOn t first
    first_common =
        let f = from_later s.lower t.lower first (at_most_itself first) in (
          record { on = on_first; from = f.0; upto = at_most_chain first q s.upper first_upto on_s.upto },
          record { on = subst (λ (l : Line). IsOn l first) one on_first; from = f.1; upto = at_most_chain first q t.upper first_upto on_t.upto },
        )

    last_common : LiesOn s last × LiesOn t last
    last_common =
        let f = upto_earlier s.upper t.upper last (at_most_itself last) in (
          record { on = on_last; from = at_most_chain s.lower q last on_s.from last_from; upto = f.0 },
          record { on = subst (λ (l : Line). IsOn l last) one on_last; from = at_most_chain t.lower q last on_t.from last_from; upto = f.1 },
        )

  -- ---- where their lines cross, a common point is within bounds
  crossing_is : are_parallel s.line t.line ≡ false → IsPoint q
  crossing_is e = elim (le_cases t.lower q (at_most_out t.lower q on_t.from)) [
    | inl i ↦ subst IsPoint i T.lower
    | inr l ↦ elim (le_cases q t.upper (at_most_out q t.upper on_t.upto)) [
      | inl i ↦ subst IsPoint (sym i) T.upper
      | inr k ↦ in_plane t s T S q Q l k on_t.on on_s.on e
    ]
  ]

  one_line : are_parallel s.line t.line ≡ true → s.line ≡ t.line
  one_line e = parallel_one s.line t.line q S.line T.line Q.positive (apart_out (s.line.a *ℤ t.line.b) (t.line.a *ℤ s.line.b) e) on_s.on on_t.on

  -- ---- so what is said of points within bounds is true of this one
  pub never_apart : AreApart s t → ⊥
  never_apart h =
      ⊎_elim
      (λ e. let o = one_line e in let w = first_common o in h first (first_is o) w.0 w.1)
      (λ e. h q (crossing_is e) on_s on_t)
      (decide (are_parallel s.line t.line))

  pub only_is : (p : Point) → IsOnlyCommon s t p → q ≡ p
  only_is p h =
      ⊎_elim
      (λ e.
      let o = one_line e in
      let a = first_common o in
      let b = last_common o in
      let c : first ≡ p = h.only first (first_is o) a.0 a.1 in
      let d : last ≡ p = h.only last (last_is o) b.0 b.1 in
      at_most_both q p (subst (IsAtMost q) d last_from) (subst (λ (x : Point). IsAtMost x q) c first_upto))
      (λ e. h.only q (crossing_is e) on_s on_t)
      (decide (are_parallel s.line t.line))

  module _ (a b : Point) (h : IsCommonPart s t a b) where
    first_of : a ≡ first
    first_of =
        let w = first_common h.one_line in
        at_most_both a first ((h.common first (first_is h.one_line)).0 w).from (let w = part_starts s t a b h in to_later s.lower t.lower a w.0.from w.1.from)

    -- the point isn't before the first one of the part, which is the lower end of either
    pub not_before_first : IsAtMost a q
    not_before_first = subst (λ (x : Point). IsAtMost x q) (sym first_of) first_upto

    pub first_either : (a ≡ s.lower) ⊎ (a ≡ t.lower)
    first_either = ⊎_elim (λ e. inl (first_of ∙ e)) (λ e. inr (first_of ∙ e)) (later_keeps (λ x. (x ≡ s.lower) ⊎ (x ≡ t.lower)) s.lower t.lower (inl (λ i. s.lower)) (inr (λ i. t.lower)))
