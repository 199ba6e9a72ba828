-- What three numbers make.
use Rattle.std.specs.Prelude.{ℤ, pos, Result, Ok, Err, if◌then◌else◌}
use Rattle.std.specs.Ordering.{int_eq}
use Rattle.exact_plane.specs.Point.{Point, in_range, reduced}
use Rattle.exact_plane.specs.declared.point.PointError.{PointError}
use Rattle.exact_plane.specs.declared.point.PointError.TheVariants.{ZeroWeight, Range}

abbrev pub point_of : ℤ → ℤ → ℤ → Result Point PointError
point_of x y w = if int_eq w (pos 0) then Err ZeroWeight else (if in_range x y w then Ok (reduced x y w) else Err Range)
