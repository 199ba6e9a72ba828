-- What two spans have in common.
use Rattle.std.specs.Prelude.{◌≡◌, ◌↔◌}
use Rattle.exact_plane.specs.Point.{Point, IsPoint}
use Rattle.exact_plane.specs.Span.{Span, LiesOn, IsSpan}
use Rattle.exact_plane.specs.declared.meets.Meet.{Meet}
use Rattle.exact_plane.specs.declared.meets.Meet.TheVariants.{Apart, At, Along}

-- no point lies on both
abbrev pub AreApart : Span → Span → Type 0
AreApart s t = (q : Point) → IsPoint q → LiesOn s q → ¬ LiesOn t q

-- the point lies on both, and no other does
pub record IsOnlyCommon (s t : Span) (p : Point) : Type 0 where
  pub point : IsPoint p
  pub on_first : LiesOn s p
  pub on_second : LiesOn t p
  pub only : (q : Point) → IsPoint q → LiesOn s q → LiesOn t q → q ≡ p

-- both are on one line, and their common points are those of the span from p to q
pub record IsCommonPart (s t : Span) (p q : Point) : Type 0 where
  pub one_line : s.line ≡ t.line
  pub part : IsSpan (record { lower = p; upper = q; line = s.line })
  pub common : (r : Point) → IsPoint r → (LiesOn s r × LiesOn t r) ↔ LiesOn (record { lower = p; upper = q; line = s.line }) r

-- what is said of two spans is right
abbrev pub IsMeeting : Span → Span → Meet → Type 0
IsMeeting s t Apart = AreApart s t
IsMeeting s t (At p) = IsOnlyCommon s t p
IsMeeting s t (Along p q) = IsCommonPart s t p q
