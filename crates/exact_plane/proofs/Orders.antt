-- The point order by `IsAtMost`, and the later and the earlier of two points.
use Rattle.std.proofs.Common.{◌≡◌, true, false, refl, ap, ◌∙◌, Ordering, Less, Equal, Greater}
use Rattle.std.specs.Ordering.{is_gt, is_le, ordering_reverse}
use Rattle.std.specs.Cmp.{upto, tied_itself, tied_back}
use Rattle.integers.proofs.Decisions.{clash}
use Rattle.exact_plane.specs.MeetOf.{later_by, later, earlier_by, earlier}
use Rattle.exact_plane.specs.Point.{Point}
use Rattle.exact_plane.specs.PointOrder.{point_cmp}
use Rattle.exact_plane.specs.PointOrderLaws.{point_cmp_total, same_point}
use Rattle.exact_plane.specs.Span.{IsAtMost}

not_greater : (o : Ordering) → is_le o ≡ true → is_gt o ≡ false
not_greater Less h = refl
not_greater Equal h = refl
not_greater Greater h = cc

at_most : (o : Ordering) → is_gt o ≡ false → is_le o ≡ true
at_most Less h = refl
at_most Equal h = refl
at_most Greater h = cc

pub at_most_itself : (p : Point) → IsAtMost p p
at_most_itself p = ap is_le (tied_itself point_cmp_total p)

pub at_most_chain : (p q r : Point) → IsAtMost p q → IsAtMost q r → IsAtMost p r
at_most_chain p q r h k = at_most _ (upto point_cmp_total p q r (not_greater _ h) (not_greater _ k))

pub less_at_most : (p q : Point) → point_cmp p q ≡ Less → IsAtMost p q
less_at_most p q e = ap is_le e

pub greater_at_most : (p q : Point) → point_cmp p q ≡ Greater → IsAtMost q p
greater_at_most p q e = ap is_le (point_cmp_total.antisymm q p ∙ ap ordering_reverse e)

-- two points that aren't after one another are one
pub at_most_both : (p q : Point) → IsAtMost p q → IsAtMost q p → p ≡ q
at_most_both p q h k = at (point_cmp p q) (point_cmp q p) refl (point_cmp_total.antisymm q p) h k
  where
    at : (o u : Ordering) → point_cmp p q ≡ o → u ≡ ordering_reverse (point_cmp p q) → is_le o ≡ true → is_le u ≡ true → p ≡ q
    at Less u e f h k = absurd (clash (is_le u) k (ap is_le (f ∙ ap ordering_reverse e)))
    at Equal u e f h k = same_point p q e
    at Greater u e f h k = cc

pub not_after : (p q : Point) → point_cmp p q ≡ Greater → IsAtMost p q → ⊥
not_after p q e h = clash _ h (ap is_le e)

-- ---- of two points
later_keeps' : (o : Ordering) (P : Point → Type 0) (p q : Point) → P p → P q → P (later_by o p q)
later_keeps' Less P p q h k = k
later_keeps' Equal P p q h k = h
later_keeps' Greater P p q h k = h

pub later_keeps : (P : Point → Type 0) (p q : Point) → P p → P q → P (later p q)
later_keeps P p q = later_keeps' (point_cmp p q) P p q

earlier_keeps' : (o : Ordering) (P : Point → Type 0) (p q : Point) → P p → P q → P (earlier_by o p q)
earlier_keeps' Less P p q h k = h
earlier_keeps' Equal P p q h k = h
earlier_keeps' Greater P p q h k = k

pub earlier_keeps : (P : Point → Type 0) (p q : Point) → P p → P q → P (earlier p q)
earlier_keeps P p q = earlier_keeps' (point_cmp p q) P p q

later_first : (o : Ordering) (p q : Point) → point_cmp p q ≡ o → IsAtMost p (later_by o p q)
later_first Less p q e = ap is_le e
later_first Equal p q e = at_most_itself p
later_first Greater p q e = at_most_itself p

later_second : (o : Ordering) (p q : Point) → point_cmp p q ≡ o → IsAtMost q (later_by o p q)
later_second Less p q e = at_most_itself q
later_second Equal p q e = ap is_le (tied_back point_cmp_total p q e)
later_second Greater p q e = greater_at_most p q e

earlier_first : (o : Ordering) (p q : Point) → point_cmp p q ≡ o → IsAtMost (earlier_by o p q) p
earlier_first Less p q e = at_most_itself p
earlier_first Equal p q e = at_most_itself p
earlier_first Greater p q e = greater_at_most p q e

earlier_second : (o : Ordering) (p q : Point) → point_cmp p q ≡ o → IsAtMost (earlier_by o p q) q
earlier_second Less p q e = ap is_le e
earlier_second Equal p q e = ap is_le e
earlier_second Greater p q e = at_most_itself q

-- what isn't before two points isn't before the later one, and the other way round
pub from_later : (p q r : Point) → IsAtMost (later p q) r → IsAtMost p r × IsAtMost q r
from_later p q r h = (at_most_chain p (later p q) r (later_first (point_cmp p q) p q refl) h, at_most_chain q (later p q) r (later_second (point_cmp p q) p q refl) h)

pub to_later : (p q r : Point) → IsAtMost p r → IsAtMost q r → IsAtMost (later p q) r
to_later p q r = later_keeps (λ s. IsAtMost s r) p q

pub upto_earlier : (p q r : Point) → IsAtMost r (earlier p q) → IsAtMost r p × IsAtMost r q
upto_earlier p q r h = (at_most_chain r (earlier p q) p h (earlier_first (point_cmp p q) p q refl), at_most_chain r (earlier p q) q h (earlier_second (point_cmp p q) p q refl))

pub to_earlier : (p q r : Point) → IsAtMost r p → IsAtMost r q → IsAtMost r (earlier p q)
to_earlier p q r = earlier_keeps (λ s. IsAtMost r s) p q
