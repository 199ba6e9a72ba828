-- Lines in the order of their slopes: a line a x + b y + c = 0 that isn't vertical has the slope -a / b, and a vertical one is steeper than all others.
use Rattle.std.specs.Prelude.{◌≡◌, ℤ, pos, ◌<ℤ◌, neg_ℤ, if◌then◌else◌}
use Rattle.std.specs.Ordering.{bool_cmp, int_cmp, int_eq, ordering_then}
use Rattle.std.specs.declared.cmp.Ordering.{Ordering}
use Rattle.std.specs.declared.cmp.Ordering.TheVariants.{Less, Greater}
use Rattle.integers.specs.Ratio.{ratio_cmp}
use Rattle.exact_plane.specs.Line.{Line}
use Rattle.exact_plane.specs.MeetOf.{weight_of}
use Rattle.exact_plane.specs.PointOrder.{weight}

-- by the weight of their crossing, which is positive where the second line is steeper and 0 where they are parallel
abbrev pub slope_cmp : Line → Line → Ordering
slope_cmp l m = int_cmp (pos 0) (weight_of l m)

-- the slopes of two lines, neither vertical, as fractions
abbrev pub fraction_cmp : Line → Line → Ordering
fraction_cmp l m = ratio_cmp (neg_ℤ l.a) l.b (neg_ℤ m.a) m.b

-- of two lines that compare so, a vertical one comes after one that isn't
pub record IsVerticalLast (l m : Line) (o : Ordering) : Type 0 where
  pub second : pos 0 <ℤ l.b → m.b ≡ pos 0 → o ≡ Less
  pub first : l.b ≡ pos 0 → pos 0 <ℤ m.b → o ≡ Greater

-- what a line rises by over its `weight`; in a triple that is no line's too
abbrev pub rise : Line → ℤ
rise l = if int_eq l.b (pos 0) then pos 0 else neg_ℤ l.a

-- the same order of lines, by cases, and total on all triples, so that lists of lines can be sorted by it
abbrev pub rise_cmp : Line → Line → Ordering
rise_cmp l m = ordering_then (bool_cmp (int_eq l.b (pos 0)) (int_eq m.b (pos 0))) (ratio_cmp (rise l) (weight l.b) (rise m) (weight m.b))
