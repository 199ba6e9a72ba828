-- How the points of a path are kept.
use Rattle.std.specs.Prelude.{◌≡◌, ℤ, pos, List, length, take}
use Rattle.std.proofs.Common.{sym, arith}
use Rattle.std.proofs.lemmas.List.{length-take-le}
use Rattle.script_lines.specs.declared.points.TheConstants.{MAX_POINTS}
use Rattle.script_lines.specs.declared.points.PathPoints.TheInside.{Inside}
use Rattle.script_lines.specs.Filled.{filled, IsFilled}

-- the points in an array, whose rest is the origin
abbrev pub path_filled : List (ℤ × ℤ) → List (ℤ × ℤ)
path_filled points = filled MAX_POINTS (pos 0, pos 0) points

-- the points are the first so many of that array
abbrev pub IsPathFilled : Inside → Type 0
IsPathFilled a = IsFilled MAX_POINTS (pos 0, pos 0) a.points a.count

-- the points tell how they are kept
pub path_filled_back : (a : Inside) → IsPathFilled a → record { points = path_filled (take a.count a.points); count = length (take a.count a.points) } ≡ a
path_filled_back a h =
    let rest = sym h.rest in
    let count = length-take-le a.count a.points (omega (arith, h.few, h.room)) in
    λ i. record { points = rest i; count = count i }
