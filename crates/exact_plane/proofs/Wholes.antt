-- Points with whole coordinates, and the ends of a segment.
use Rattle.std.proofs.Common.{◌≡◌, Bool, true, false, ◌&&◌, ℤ, pos, ◌*ℤ◌, ◌-ℤ◌, ◌<ℤ◌, ◌≤ℤ◌, refl, ap, ap₂, sym, ◌∙◌, arith, Ordering, Less, Equal, Greater}
use Rattle.std.specs.Prelude.{◌||◌, int_lt}
use Rattle.std.specs.Ordering.{int_cmp, int_eq, ordering_then}
use Rattle.std.proofs.lemmas.Bool.{leb-true}
use Rattle.std.proofs.lemmas.Int.{ints}
use Rattle.integers.proofs.Decisions.{both, clash, eq_in, eq_out, ge_in, lt_in, lt_out}
use Rattle.integers.proofs.Compare.{less_out, less_in, equal_out, equal_in, greater_out}
use Rattle.exact_plane.specs.Point.{IsPoint}
use Rattle.exact_plane.proofs.Lowest.{whole_lowest}
use Rattle.exact_plane.specs.PointOrder.{point_cmp}
use Rattle.exact_plane.specs.Segment.{whole_point, is_before, is_coordinate, are_coordinates, IsCoordinate, AreCoordinates, IsSegment}

pub whole_is : (x y : ℤ) → IsCoordinate x → IsCoordinate y → IsPoint (whole_point x y)
whole_is x y h k = record {
  range = record { positive = omega (arith, ints); small = omega arith; x_within = omega arith; y_within = omega arith };
  lowest = whole_lowest x y;
}

then_last : (o : Ordering) → ordering_then o Equal ≡ o
then_last Less = refl
then_last Equal = refl
then_last Greater = refl

by_one : (z : ℤ) → z *ℤ pos 1 ≡ z
by_one z = omega (arith, ints)

module _ (x1 y1 x2 y2 : ℤ) where
  pub are_coordinates-is : are_coordinates x1 y1 x2 y2 ≡ true → AreCoordinates x1 y1 x2 y2
  are_coordinates-is h =
      let a = both (is_coordinate x1) (is_coordinate y1 && (is_coordinate x2 && is_coordinate y2)) h in
      let b = both (is_coordinate y1) (is_coordinate x2 && is_coordinate y2) a.1 in
      let d = both (is_coordinate x2) (is_coordinate y2) b.1 in
      record { first_x = leb-true _ _ a.0; first_y = leb-true _ _ b.0; second_x = leb-true _ _ d.0; second_y = leb-true _ _ d.1 }

  -- whole points compare by their coordinates
  pub whole_cmp : point_cmp (whole_point x1 y1) (whole_point x2 y2) ≡ ordering_then (int_cmp x1 x2) (int_cmp y1 y2)
  whole_cmp = ap₂ ordering_then (ap₂ int_cmp (by_one x1) (by_one x2)) (then_last (int_cmp (y1 *ℤ pos 1) (y2 *ℤ pos 1)) ∙ ap₂ int_cmp (by_one y1) (by_one y2))

  pub before_ascends : is_before x1 y1 x2 y2 ≡ true → point_cmp (whole_point x1 y1) (whole_point x2 y2) ≡ Less
  before_ascends e = whole_cmp ∙ at (int_lt x1 x2) refl e
    where
      at : (b : Bool) → int_lt x1 x2 ≡ b → (b || (int_eq x1 x2 && int_lt y1 y2)) ≡ true → ordering_then (int_cmp x1 x2) (int_cmp y1 y2) ≡ Less
      at true f g = ap (λ o. ordering_then o (int_cmp y1 y2)) (less_in x1 x2 (lt_out x1 x2 f))
      at false f g = let b = both (int_eq x1 x2) (int_lt y1 y2) g in ap (λ o. ordering_then o (int_cmp y1 y2)) (equal_in x1 x2 (eq_out x1 x2 b.0)) ∙ less_in y1 y2 (lt_out y1 y2 b.1)

  starts : x1 <ℤ x2 → is_before x1 y1 x2 y2 ≡ true
  starts h = ap (λ b. b || (int_eq x1 x2 && int_lt y1 y2)) (lt_in x1 x2 h)

  rises : x1 ≡ x2 → y1 <ℤ y2 → is_before x1 y1 x2 y2 ≡ true
  rises e h = ap₂ ◌||◌ (ge_in x1 x2 (omega (arith, ints))) (ap₂ ◌&&◌ (eq_in x1 x2 e) (lt_in y1 y2 h))

  pub after_ascends : is_before x1 y1 x2 y2 ≡ false → (int_eq x1 x2 && int_eq y1 y2) ≡ false → point_cmp (whole_point x2 y2) (whole_point x1 y1) ≡ Less
  after_ascends e f = turned ∙ at (int_cmp x2 x1) (int_cmp y2 y1) refl refl
    where
      turned : point_cmp (whole_point x2 y2) (whole_point x1 y1) ≡ ordering_then (int_cmp x2 x1) (int_cmp y2 y1)
      turned = ap₂ ordering_then (ap₂ int_cmp (by_one x2) (by_one x1)) (then_last (int_cmp (y2 *ℤ pos 1) (y1 *ℤ pos 1)) ∙ ap₂ int_cmp (by_one y2) (by_one y1))

      at : (o p : Ordering) → int_cmp x2 x1 ≡ o → int_cmp y2 y1 ≡ p → ordering_then o p ≡ Less
      at Less p g h = refl
      at Equal Less g h = refl
      at Equal Equal g h = absurd (clash _ (ap₂ ◌&&◌ (eq_in x1 x2 (sym (equal_out x2 x1 g))) (eq_in y1 y2 (sym (equal_out y2 y1 h)))) f)
      at Equal Greater g h = absurd (clash _ (rises (sym (equal_out x2 x1 g)) (greater_out y2 y1 h)) e)
      at Greater p g h = absurd (clash _ (starts (greater_out x2 x1 g)) e)

  pub is_segment : are_coordinates x1 y1 x2 y2 ≡ true → point_cmp (whole_point x1 y1) (whole_point x2 y2) ≡ Less → IsSegment x1 y1 x2 y2
  is_segment h e = record { within = are_coordinates-is h; ascending = e }

  pub is_segment_back : are_coordinates x1 y1 x2 y2 ≡ true → point_cmp (whole_point x2 y2) (whole_point x1 y1) ≡ Less → IsSegment x2 y2 x1 y1
  is_segment_back h e = let k = are_coordinates-is h in record { within = record { first_x = k.second_x; first_y = k.second_y; second_x = k.first_x; second_y = k.first_y }; ascending = e }

  -- a segment runs to the right, or upwards
  pub runs_on : IsSegment x1 y1 x2 y2 → (pos 0 ≤ℤ (x2 -ℤ x1)) × (x2 -ℤ x1 ≡ pos 0 → (y1 -ℤ y2) <ℤ pos 0)
  runs_on s = at (int_cmp x1 x2) (int_cmp y1 y2) refl refl (sym whole_cmp ∙ s.ascending)
    where
      at : (o p : Ordering) → int_cmp x1 x2 ≡ o → int_cmp y1 y2 ≡ p → ordering_then o p ≡ Less → (pos 0 ≤ℤ (x2 -ℤ x1)) × (x2 -ℤ x1 ≡ pos 0 → (y1 -ℤ y2) <ℤ pos 0)
      at Less p g h e = let k = less_out x1 x2 g in (omega (arith, ints), λ z. absurd (omega (arith, ints)))
      at Equal Less g h e = let k = equal_out x1 x2 g in let m = less_out y1 y2 h in (omega (arith, ints), λ z. omega (arith, ints))
      at Equal Equal g h e = cc
      at Equal Greater g h e = cc
      at Greater p g h e = cc

  pub same_ends : (int_eq x1 x2 && int_eq y1 y2) ≡ true → (x1 ≡ x2) × (y1 ≡ y2)
  same_ends h = let b = both (int_eq x1 x2) (int_eq y1 y2) h in (eq_out x1 x2 b.0, eq_out y1 y2 b.1)
