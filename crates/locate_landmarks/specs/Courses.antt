-- The course of a query: along the horizontal of its landmark to the abscissa of its point, and then along the vertical of the point.
use Rattle.std.specs.Prelude.{ℕ, ◌/◌, ◌%◌, Bool, pos, ◌*ℤ◌}
use Rattle.std.specs.Ordering.{is_lt, is_gt}
use Rattle.std.specs.declared.cmp.Ordering.{Ordering}
use Rattle.integers.specs.Ratio.{ratio_cmp}
use Rattle.exact_plane.specs.Line.{Line}
use Rattle.exact_plane.specs.Point.{Point, reduced}
use Rattle.exact_plane.specs.PointOrder.{point_cmp}
use Rattle.exact_plane.specs.Segment.{segment, line_of_segment}
use Rattle.locate_landmarks.specs.Grid.{grid_number, landmark_at, IsNearest}
use Rattle.locate_landmarks.specs.declared.course.Course.{Course}

-- the order of the ordinates of two points (CGAL, `Compare_y_2`)
abbrev pub compare_y : Point → Point → Ordering
compare_y p q = ratio_cmp p.y p.w q.y q.w

-- the line of a row of the grid
abbrev pub level_of_row : ℕ → Line
level_of_row k = line_of_segment (segment (pos 0) (grid_number k) (pos 1) (grid_number k))

-- where the horizontal of a row and the vertical of the point meet
abbrev pub corner_of : Point → ℕ → Point
corner_of q k = reduced q.x (grid_number k *ℤ q.w) q.w

-- the course from a landmark, by its place in the list of them all, to the point
abbrev pub course_to : Point → ℕ → Course
course_to q k = record {
  landmark = landmark_at k;
  point = q;
  corner = corner_of q (k % 7);
  corner_order = compare_y (landmark_at k) q;
  level = level_of_row (k % 7);
  eastward = is_lt (point_cmp (landmark_at k) q);
  downward = is_gt (compare_y (landmark_at k) q);
}

-- it is the landmark of the point: the one from which a query for it starts
pub record IsLandmarkOf (q : Point) (k : ℕ) : Type 0 where
  pub abscissa : IsNearest q.x q.w (grid_number (k / 7))
  pub ordinate : IsNearest q.y q.w (grid_number (k % 7))

-- whether a point is above the horizontal of the course, which is raised by less than any number
abbrev pub is_above_level : Course → Point → Bool
is_above_level c p = is_gt (compare_y p c.landmark)
