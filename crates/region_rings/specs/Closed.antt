-- Why there are no rings.
use Rattle.std.specs.Prelude.{⊤, List}
use Rattle.exact_plane.specs.Point.{Point}
use Rattle.polygon_sets.specs.ClosedBorders.{IsClosedBorder}
use Rattle.region_rings.specs.declared.errors.RingsError.{RingsError}
use Rattle.region_rings.specs.declared.errors.RingsError.TheVariants.{NotClosed, NoMemory}

-- the darts aren't a closed border, or there was no memory
abbrev pub IsErrorOf : List (Point × Point) → RingsError → Type 0
IsErrorOf ds NotClosed = IsClosedBorder ds → ⊥
IsErrorOf ds NoMemory = ⊤
