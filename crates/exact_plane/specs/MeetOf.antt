-- How the common points of two spans are found: by order on one line, else by the crossing of their lines.
use Rattle.std.specs.Prelude.{Bool, ◌&&◌, ℤ, if◌then◌else◌}
use Rattle.std.specs.Ordering.{ordering_then, int_eq, is_le}
use Rattle.std.specs.declared.cmp.Ordering.{Ordering}
use Rattle.std.specs.declared.cmp.Ordering.TheVariants.{Less, Equal, Greater}
use Rattle.integers.specs.Ratio.{ratio_cmp}
use Rattle.exact_plane.specs.Line.{Line}
use Rattle.exact_plane.specs.Plane.{cross_x, cross_y, cross_w}
use Rattle.exact_plane.specs.Point.{Point, in_range, reduced}
use Rattle.exact_plane.specs.PointOrder.{point_cmp}
use Rattle.exact_plane.specs.Span.{Span}
use Rattle.exact_plane.specs.declared.meets.Meet.{Meet}
use Rattle.exact_plane.specs.declared.meets.Meet.TheVariants.{Apart, At, Along}

-- of two points that compare so, the one that comes later, and the one that comes earlier
abbrev pub later_by : Ordering → Point → Point → Point
later_by Less p q = q
later_by Equal p q = p
later_by Greater p q = p

abbrev pub earlier_by : Ordering → Point → Point → Point
earlier_by Less p q = p
earlier_by Equal p q = p
earlier_by Greater p q = q

abbrev pub later : Point → Point → Point
later p q = later_by (point_cmp p q) p q

abbrev pub earlier : Point → Point → Point
earlier p q = earlier_by (point_cmp p q) p q

-- what is left between two points that compare so
abbrev pub part_by : Ordering → Point → Point → Meet
part_by Less p q = Along p q
part_by Equal p q = At p
part_by Greater p q = Apart

-- of two spans of one line
abbrev pub part_of : Span → Span → Meet
part_of s t = let p = later s.lower t.lower in let q = earlier s.upper t.upper in part_by (point_cmp p q) p q

-- whether two lines have the same numbers
abbrev pub same_line : Line → Line → Bool
same_line l m = int_eq l.a m.a && (int_eq l.b m.b && int_eq l.c m.c)

-- the crossing of two lines, not in lowest terms
abbrev pub weight_of : Line → Line → ℤ
weight_of l m = cross_w l.a l.b l.c m.a m.b m.c

abbrev pub crossing : Line → Line → Point
crossing l m = record { x = cross_x l.a l.b l.c m.a m.b m.c; y = cross_y l.a l.b l.c m.a m.b m.c; w = weight_of l m }

-- the order of two places with positive weights
abbrev pub place_cmp : Point → Point → Ordering
place_cmp p q = ordering_then (ratio_cmp p.x p.w q.x q.w) (ratio_cmp p.y p.w q.y q.w)

-- whether a place of its line is between the ends of a span
abbrev pub is_between : Span → Point → Bool
is_between s c = is_le (place_cmp s.lower c) && is_le (place_cmp c s.upper)

-- whether a place of both lines is a point of both spans
abbrev pub is_common_place : Span → Span → Point → Bool
is_common_place s t c = is_between s c && (is_between t c && in_range c.x c.y c.w)

-- of two spans whose lines cross with a positive weight
abbrev pub place_meet : Span → Span → Point → Meet
place_meet s t c = if is_common_place s t c then At (reduced c.x c.y c.w) else Apart

abbrev pub crossing_meet : Span → Span → Meet
crossing_meet s t = place_meet s t (crossing s.line t.line)
