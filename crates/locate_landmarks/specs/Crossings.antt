-- In which order the horizontal of a landmark, which is raised by less than any number, crosses edges: told by signs alone.
use Rattle.std.specs.Prelude.{Bool, true, false, not, ◌&&◌, cond, Option, Some, None}
use Rattle.std.specs.Ordering.{is_lt, is_gt, bool_cmp, ordering_then, ordering_reverse}
use Rattle.std.specs.declared.cmp.Ordering.{Ordering}
use Rattle.std.specs.declared.cmp.Ordering.TheVariants.{Less, Equal, Greater}
use Rattle.exact_plane.specs.Line.{Line, side_of}
use Rattle.exact_plane.specs.Point.{Point}
use Rattle.exact_plane.specs.Sign.{sign_of}
use Rattle.exact_plane.specs.Slope.{slope_cmp}
use Rattle.exact_plane.specs.declared.sides.Sign.{Sign}
use Rattle.exact_plane.specs.declared.sides.Sign.TheVariants.{Minus, Zero, Plus}
use Rattle.locate_landmarks.specs.Courses.{compare_y}
use Rattle.locate_landmarks.specs.declared.course.Course.{Course}
use Rattle.locate_landmarks.specs.declared.crossing.Crossing.{Crossing}

-- whether a line rises from left to right, as a vertical one does too
abbrev pub is_rising : Line → Line → Bool
is_rising level l = is_lt (slope_cmp level l)

-- on which side of a point a line is at the point's ordinate, by the side of the line on which the point is and whether it rises: each line runs to the right
abbrev pub order_by : Sign → Bool → Ordering
order_by Zero b = Equal
order_by Minus true = Less
order_by Minus false = Greater
order_by Plus true = Greater
order_by Plus false = Less

-- how a line that isn't level lies to a point at the point's ordinate, from left to right
abbrev pub order_at : Line → Line → Point → Ordering
order_at level l p = order_by (sign_of (side_of l p)) (is_rising level l)

-- whether a line meets the horizontal between the landmark, itself included, and the vertical of the point, which is leant by less than any number
abbrev pub is_on_way : Course → Line → Bool
is_on_way c l =
    let of_landmark = order_at c.level l c.landmark in
    let of_point = ordering_then (order_at c.level l c.corner) c.corner_order in
    cond c.eastward (not (is_lt of_landmark) && is_lt of_point) (not (is_gt of_landmark) && is_gt of_point)

-- the order from left to right of two edges that go down from one vertex: rising ones come first, the flat ones before the steep ones, and then the falling ones, the steep ones first
abbrev pub order_in_fan : Line → Line → Line → Ordering
order_in_fan level l m = ordering_then (bool_cmp (is_rising level m) (is_rising level l)) (slope_cmp l m)

-- the order in which the horizontal crosses two edges from left to right: that at the lesser one of their upper ends, since they cross nowhere, and where both end there, that below
abbrev pub order_along : Line → Crossing → Crossing → Ordering
order_along level x y =
    let at_end = cond (is_gt (compare_y x.upper y.upper)) (order_at level x.line y.upper) (ordering_reverse (order_at level y.line x.upper)) in
    ordering_then at_end (order_in_fan level x.line y.line)

-- whether a crossing comes after another one on the way, as each does after none
abbrev pub is_later : Course → Option Crossing → Crossing → Bool
is_later c None y = true
is_later c (Some x) y = cond c.eastward (is_lt (order_along c.level x y)) (is_lt (order_along c.level y x))
