-- What is written down of a boundary that is looked at.
use Rattle.std.specs.Prelude.{◌≡◌, Bool, false, List}
use Rattle.std.specs.List.{Contains}
use Rattle.exact_plane.specs.Point.{Point}
use Rattle.slab_laws.specs.View.{View, point_in, source_in}
use Rattle.counted_looks.specs.declared.boundary_part.BoundaryPart.{BoundaryPart}
use Rattle.counted_looks.specs.declared.boundary_part.BoundaryPart.TheVariants.{Dart, Isolated}

-- a dart's source, or the isolated vertex itself, as a point
abbrev pub point_of : View → BoundaryPart → Point
point_of v (Dart d) = point_in v (source_in v d)
point_of v (Isolated w) = point_in v w

-- where none was lost, the point is among those that were written down
abbrev pub IsNoted : Bool → List Point → Point → Type 0
IsNoted lost points p = lost ≡ false → Contains points p
