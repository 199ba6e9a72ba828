-- How a dart lies to the leant vertical through a point, by its ends.
use Rattle.std.specs.Prelude.{◌≡◌, ◌≢◌, Bool, true, false}
use Rattle.std.specs.declared.cmp.Ordering.TheVariants.{Less}
use Rattle.exact_plane.specs.Point.{Point}
use Rattle.exact_plane.specs.PointOrder.{point_cmp}
use Rattle.locate_walk.specs.declared.passage.Passage.{Passage}
use Rattle.locate_walk.specs.declared.passage.Passage.TheVariants.{FromPoint, ToPoint, Forward, Backward, Apart}

-- p is strictly between a and b in point order
abbrev pub IsBetween : Point → Point → Point → Type 0
IsBetween a p b = (point_cmp a p ≡ Less) × (point_cmp p b ≡ Less)

-- p is neither s nor t, nor between them
pub record IsApart (s p t : Point) : Type 0 where
  pub off_source : s ≢ p
  pub off_target : t ≢ p
  pub not_ahead : ¬ IsBetween s p t
  pub not_back : ¬ IsBetween t p s

-- the dart from s to t lies so to the leant vertical through p (Fogel, Halperin and Wein: vertical ray shooting)
abbrev pub IsPassage : Point → Point → Point → Passage → Type 0
IsPassage s p t FromPoint = s ≡ p
IsPassage s p t ToPoint = t ≡ p
IsPassage s p t Forward = IsBetween s p t
IsPassage s p t Backward = IsBetween t p s
IsPassage s p t Apart = IsApart s p t

-- one end is before the point, and one after it
abbrev pub spans : Passage → Bool
spans Forward = true
spans Backward = true
spans FromPoint = false
spans ToPoint = false
spans Apart = false
