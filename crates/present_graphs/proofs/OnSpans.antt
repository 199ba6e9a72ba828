-- To lie on a piece is to lie on its span.
use Rattle.std.proofs.Common.{◌≡◌, Bool, true, false, not, ◌&&◌, refl, sym, ap, ap₂, ◌∙◌, Ordering, Less, Equal, Greater}
use Rattle.std.specs.Ordering.{is_lt, is_le, ordering_reverse}
use Rattle.exact_plane.specs.Line.{side_of}
use Rattle.exact_plane.specs.Point.{Point}
use Rattle.exact_plane.specs.PointOrder.{point_cmp}
use Rattle.exact_plane.specs.PointOrderLaws.{point_cmp_total, and_true}
use Rattle.exact_plane.specs.Span.{Span, LiesOn}
use Rattle.plane_graphs.specs.Line.{is_on}
use Rattle.plane_graphs.specs.Piece.{Piece, along, on}
use Rattle.plane_graphs.proofs.Lines.{zero_in, zero_out}
use Rattle.plane_graphs.proofs.Lists.{and_in}
use Rattle.present_graphs.specs.Spans.{span_of_piece, lies_on}

at_most_by : (o : Ordering) → is_le (ordering_reverse o) ≡ not (is_lt o)
at_most_by Less = refl
at_most_by Equal = refl
at_most_by Greater = refl

at_most : (p q : Point) → is_le (point_cmp p q) ≡ not (is_lt (point_cmp q p))
at_most p q = ap is_le (point_cmp_total.antisymm p q) ∙ at_most_by (point_cmp q p)

and_assoc : (a b c : Bool) → (a && b) && c ≡ a && (b && c)
and_assoc true b c = refl
and_assoc false b c = refl

pub lies_on-is : (k : Piece) (p : Point) → lies_on (span_of_piece k) p ≡ on k p
unfolding on along
lies_on-is k p =
    let a : Bool = is_on (span_of_piece k).line p in
    and_assoc a (is_le (point_cmp k.from p)) (is_le (point_cmp p k.to)) ∙ ap₂ (λ b c. a && (b && c)) (at_most k.from p) (at_most p k.to)

pub lies_on_out : (s : Span) (p : Point) → lies_on s p ≡ true → LiesOn s p
lies_on_out s p h =
    let a = and_true (is_on s.line p && is_le (point_cmp s.lower p)) (is_le (point_cmp p s.upper)) h in
    let b = and_true (is_on s.line p) (is_le (point_cmp s.lower p)) a.0 in
    record { on = zero_out (side_of s.line p) b.0; from = b.1; upto = a.1 }

pub lies_on_in : (s : Span) (p : Point) → LiesOn s p → lies_on s p ≡ true
lies_on_in s p h = and_in (and_in (zero_in (side_of s.line p) h.on) h.from) h.upto

pub on_lies : (k : Piece) (p : Point) → on k p ≡ true → LiesOn (span_of_piece k) p
on_lies k p h = lies_on_out (span_of_piece k) p (lies_on-is k p ∙ h)

pub lies_on_piece : (k : Piece) (p : Point) → LiesOn (span_of_piece k) p → on k p ≡ true
lies_on_piece k p h = sym (lies_on-is k p) ∙ lies_on_in (span_of_piece k) p h
