-- Whole corners have the weight 1.
use Rattle.std.proofs.Common.{◌≡◌, ℕ, zero, suc, ◌<◌, List, length, pos, ◌*ℤ◌, ap, ◌∙◌, arith}
use Rattle.exact_plane.specs.Point.{Point}
use Rattle.region_rings.specs.Holes.{place_after}
use Rattle.region_rings.proofs.WideRings.{after_within}
use Rattle.ring_areas.specs.Areas.{side_at, area, AreWhole}
use Rattle.ring_areas.specs.Fractions.{Fraction, total}
use Rattle.ring_areas.proofs.Totals.{total_none, total_suc}

ones : (f : ℕ → Fraction) (n : ℕ) → ((i : ℕ) → i < n → (f i).denominator ≡ pos 1) → (total f n).denominator ≡ pos 1
ones f zero h = ap (λ a. a.denominator) (total_none f)
ones f (suc n) h = ap (λ a. a.denominator) (total_suc f n) ∙ (λ j. ones f n (λ i l. h i (omega arith)) j *ℤ h n (omega arith) j)

pub whole_area : (ps : List Point) → AreWhole ps → (area ps).denominator ≡ pos 2
whole_area ps h = ap (λ d. d *ℤ pos 2) (ones (side_at ps) (length ps) (λ i l. (λ j. h i l j *ℤ h (place_after ps i) (after_within ps i l) j)))
