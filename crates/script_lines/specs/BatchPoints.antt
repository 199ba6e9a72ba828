-- How the points of a batch are kept.
use Rattle.std.specs.Prelude.{◌≡◌, pos, List, length, take}
use Rattle.std.proofs.Common.{sym, arith}
use Rattle.std.proofs.lemmas.List.{length-take-le}
use Rattle.exact_plane.specs.Point.{Point}
use Rattle.exact_plane.specs.Segment.{whole_point}
use Rattle.script_lines.specs.declared.points.TheConstants.{MAX_BATCH}
use Rattle.script_lines.specs.declared.points.BatchPoints.TheInside.{Inside}
use Rattle.script_lines.specs.Filled.{filled, IsFilled}

-- the points in an array, whose rest is the origin
abbrev pub batch_filled : List Point → List Point
batch_filled points = filled MAX_BATCH (whole_point (pos 0) (pos 0)) points

-- the points are the first so many of that array
abbrev pub IsBatchFilled : Inside → Type 0
IsBatchFilled a = IsFilled MAX_BATCH (whole_point (pos 0) (pos 0)) a.points a.count

-- the points tell how they are kept
pub batch_filled_back : (a : Inside) → IsBatchFilled a → record { points = batch_filled (take a.count a.points); count = length (take a.count a.points) } ≡ a
batch_filled_back a h =
    let rest = sym h.rest in
    let count = length-take-le a.count a.points (omega (arith, h.few, h.room)) in
    λ i. record { points = rest i; count = count i }
