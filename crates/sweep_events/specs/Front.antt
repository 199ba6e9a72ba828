-- The order in which lines meet the front of a sweep, just before and just after a point.
-- The front through p is the vertical line through p, leant by less than any number: what it has swept are the points up to p in point order.
use Rattle.std.specs.Prelude.{ℤ, pos, ◌-ℤ◌, ◌*ℤ◌}
use Rattle.std.specs.Ordering.{int_cmp, ordering_then}
use Rattle.std.specs.declared.cmp.Ordering.{Ordering}
use Rattle.exact_plane.specs.Line.{Line, side_of}
use Rattle.exact_plane.specs.MeetOf.{weight_of}
use Rattle.exact_plane.specs.Point.{Point}

-- positive where l passes below m at the abscissa of p, and 0 where they meet there, or one of them is vertical and p is on it
abbrev pub across : Line → Line → Point → ℤ
across l m p = m.b *ℤ side_of l p -ℤ l.b *ℤ side_of m p

-- what tells them apart where `across` is 0: how far p is above the point in which they meet, times `lean`
abbrev pub upward : Line → Line → Point → ℤ
upward l m p = l.a *ℤ side_of m p -ℤ m.a *ℤ side_of l p

-- positive where m is steeper than l: the weight of their crossing
abbrev pub lean : Line → Line → ℤ
lean l m = weight_of l m

-- two numbers against 0, the first deciding: `Less` where they are positive
abbrev pub lex : ℤ → ℤ → Ordering
lex x y = ordering_then (int_cmp (pos 0) x) (int_cmp (pos 0) y)

-- the order on the front through p of lines that don't meet at p: `Less` where l is below m (Fogel, Halperin and Wein: the status line)
abbrev pub level_cmp : Point → Line → Line → Ordering
level_cmp p l m = lex (across l m p) (upward l m p)

-- and just after p: those that meet at p go by their slopes
abbrev pub after_cmp : Point → Line → Line → Ordering
after_cmp p l m = ordering_then (level_cmp p l m) (int_cmp (pos 0) (lean l m))

-- and just before p
abbrev pub before_cmp : Point → Line → Line → Ordering
before_cmp p l m = ordering_then (level_cmp p l m) (int_cmp (lean l m) (pos 0))
