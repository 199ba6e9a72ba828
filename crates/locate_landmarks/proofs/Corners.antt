-- Where a horizontal and a vertical of the plane meet is a point.
use Rattle.std.proofs.Common.{◌≡◌, ◌≤◌, ◌+◌, ◌*ℤ◌, ℤ, pos, Bool, true, false, arith, refl, sym, ap, ◌∙◌, subst}
use Rattle.std.specs.Prelude.{unsigned_abs, IsOk, Ok, Err, if◌then◌else◌}
use Rattle.std.specs.Ordering.{int_eq}
use Rattle.std.proofs.lemmas.Bool.{false_from_ne_true}
use Rattle.std.proofs.lemmas.Int.{ints, unsigned_abs-mul}
use Rattle.std.proofs.lemmas.Nat.{row_fits}
use Rattle.integers.proofs.Decisions.{eq_out}
use Rattle.exact_plane.specs.declared.bounds.TheConstants.{MAX_COORDINATE}
use Rattle.exact_plane.specs.declared.point.PointError.TheVariants.{ZeroWeight, Range}
use Rattle.exact_plane.specs.Point.{Point, in_range, reduced, IsInRange}
use Rattle.exact_plane.specs.PointOf.{point_of}
use Rattle.exact_plane.specs.Segment.{Segment, segment, are_coordinates}
use Rattle.exact_plane.specs.SegmentOf.{segment_of}
use Rattle.exact_plane.specs.declared.segment.SegmentError.TheVariants.{Range as RangeError}
use Rattle.exact_plane.proofs.Lowest.{in_range-is}

-- a weight times an ordinate of the plane
over_weight : (x y w n : ℤ) → IsInRange x y w → unsigned_abs n ≤ MAX_COORDINATE → (z : ℤ) → z ≡ n *ℤ w → IsInRange x z w
over_weight x y w n r h z e = record {
  positive = r.positive;
  small = r.small;
  x_within = r.x_within;
  y_within =
      let m = ap unsigned_abs e ∙ unsigned_abs-mul n w in
      let f = row_fits (unsigned_abs n) (unsigned_abs w) (MAX_COORDINATE + 1) (unsigned_abs w) (omega arith) (omega arith) in
      omega (arith, m, f);
}

pub in_plane : (p : Point) → IsInRange p.x p.y p.w → (n : ℤ) → unsigned_abs n ≤ MAX_COORDINATE → (x z w : ℤ) → x ≡ p.x → w ≡ p.w → z ≡ n *ℤ w → IsInRange x z w
in_plane p r n h x z w a b e = subst (λ t. IsInRange t z w) (sym a) (over_weight p.x p.y w n (subst (λ t. IsInRange p.x p.y t) (sym b) r) h z e)

given : (a b : Bool) (r : Point) → a ≡ false → b ≡ true → IsOk (if a then Err ZeroWeight else (if b then Ok r else Err Range))
given false true r h k = refl
given false false r h k = absurd cc
given true b r h k = absurd cc

pub point_ok : (x y w : ℤ) → IsInRange x y w → IsOk (point_of x y w)
point_ok x y w r =
    let some : int_eq w (pos 0) ≡ false = false_from_ne_true _ (λ h. let e = eq_out w (pos 0) h in let k = r.positive in absurd (omega (arith, ints))) in
    given (int_eq w (pos 0)) (in_range x y w) (reduced x y w) some (in_range-is x y w r)

-- what the point is
made : (a b : Bool) (r p : Point) → (if a then Err ZeroWeight else (if b then Ok r else Err Range)) ≡ Ok p → p ≡ r
made true b r p e = cc
made false true r p e = cc
made false false r p e = cc

pub point_made : (x y w : ℤ) (p : Point) → point_of x y w ≡ Ok p → p ≡ reduced x y w
point_made x y w p e = made (int_eq w (pos 0)) (in_range x y w) (reduced x y w) p e

-- ---- the line of a row
whole : (a : Bool) (r p : Segment) → (if a then Ok r else Err RangeError) ≡ Ok p → p ≡ r
whole true r p e = cc
whole false r p e = cc

pub level_made : (y : ℤ) (p : Segment) → segment_of (pos 0) y (pos 1) y ≡ Ok p → p ≡ segment (pos 0) y (pos 1) y
level_made y p e = whole (are_coordinates (pos 0) y (pos 1) y) (segment (pos 0) y (pos 1) y) p e
