-- Two spans of one line have in common what is between the later lower end and the earlier upper end.
use Rattle.std.proofs.Common.{◌≡◌, refl, ap, sym, subst, Ordering, Less, Equal, Greater}
use Rattle.std.specs.Ordering.{is_le}
use Rattle.exact_plane.specs.Line.{Line, IsOn}
use Rattle.exact_plane.specs.Meet.{IsMeeting}
use Rattle.exact_plane.specs.MeetOf.{later, earlier, part_by, part_of}
use Rattle.exact_plane.specs.Point.{Point, IsPoint}
use Rattle.exact_plane.specs.PointOrder.{point_cmp}
use Rattle.exact_plane.specs.PointOrderLaws.{same_point}
use Rattle.exact_plane.specs.Span.{Span, LiesOn, IsAtMost, IsSpan}
use Rattle.exact_plane.proofs.Orders.{at_most_itself, at_most_chain, at_most_both, not_after, later_keeps, earlier_keeps, from_later, to_later, upto_earlier, to_earlier}

module _ (s t : Span) (hs : IsSpan s) (ht : IsSpan t) (e : s.line ≡ t.line) where
  abbrev low : Point
  low = later s.lower t.lower

  abbrev high : Point
  high = earlier s.upper t.upper

  abbrev part : Span
  part = record { lower = low; upper = high; line = s.line }

  onto : (r : Point) → LiesOn s r → LiesOn t r → LiesOn part r
  onto r h k = record { on = h.on; from = to_later s.lower t.lower r h.from k.from; upto = to_earlier s.upper t.upper r h.upto k.upto }

  first_of : (r : Point) → LiesOn part r → LiesOn s r
  first_of r h = record { on = h.on; from = (from_later s.lower t.lower r h.from).0; upto = (upto_earlier s.upper t.upper r h.upto).0 }

  second_of : (r : Point) → LiesOn part r → LiesOn t r
  second_of r h = record { on = subst (λ (l : Line). IsOn l r) e h.on; from = (from_later s.lower t.lower r h.from).1; upto = (upto_earlier s.upper t.upper r h.upto).1 }

  low_point : IsPoint low
  low_point = later_keeps IsPoint s.lower t.lower hs.lower ht.lower

  low_on : IsOn s.line low
  low_on = later_keeps (λ r. IsOn s.line r) s.lower t.lower hs.way.lower_on (subst (λ (l : Line). IsOn l t.lower) (sym e) ht.way.lower_on)

  high_point : IsPoint high
  high_point = earlier_keeps IsPoint s.upper t.upper hs.upper ht.upper

  high_on : IsOn s.line high
  high_on = earlier_keeps (λ r. IsOn s.line r) s.upper t.upper hs.way.upper_on (subst (λ (l : Line). IsOn l t.upper) (sym e) ht.way.upper_on)

  by_order : (o : Ordering) → point_cmp low high ≡ o → IsMeeting s t (part_by o low high)
  by_order Less f = record {
    one_line = e;
    part = record { lower = low_point; upper = high_point; line = hs.line; way = record { ascending = f; lower_on = low_on; upper_on = high_on } };
    common = λ r p. (λ h. onto r h.0 h.1, λ h. (first_of r h, second_of r h));
  }
  by_order Equal f =
      let z : LiesOn part low = record { on = low_on; from = at_most_itself low; upto = ap is_le f } in
      record {
        point = low_point;
        on_first = first_of low z;
        on_second = second_of low z;
        only = λ r p h k. (let m = onto r h k in at_most_both r low (subst (λ (u : Point). IsAtMost r u) (sym (same_point low high f)) m.upto) m.from);
      }
  by_order Greater f = λ r p h k. let m = onto r h k in not_after low high f (at_most_chain low r high m.from m.upto)

  pub part_is : IsMeeting s t (part_of s t)
  part_is = by_order (point_cmp low high) refl
