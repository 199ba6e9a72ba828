-- A point in words.
use Rattle.std.specs.Prelude.{ℕ, List, ◌++◌, codes}
use Rattle.std.specs.Fmt.{signed_decimal}
use Rattle.exact_plane.specs.Point.{Point}

-- the three numbers of a point in decimal, a space between them
abbrev pub point_text : Point → List ℕ
point_text p = signed_decimal p.x ++ (codes " " ++ (signed_decimal p.y ++ (codes " " ++ signed_decimal p.w)))
