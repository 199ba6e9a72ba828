-- What is on the border, by the sets that hold faces.
use Rattle.std.specs.Prelude.{pos, ℕ, Bool, ◌&&◌, not, List, slice_index_or, Option}
use Rattle.exact_plane.specs.Point.{Point}
use Rattle.set_laws.specs.declared.op.Op.{Op}
use Rattle.set_laws.specs.EvenOdd.{by_op}
use Rattle.polygon_sets.specs.declared.crossings.Inside.{Inside}
use Rattle.polygon_sets.specs.declared.crossings.Crossing.{Crossing}
use Rattle.polygon_sets.specs.Spread.{set_at, held}

-- what stands where there is no point
abbrev pub no_point : Point
no_point = record { x = pos 0; y = pos 0; w = pos 1 }

-- the point of a vertex by its place
abbrev pub point_at : List Point → ℕ → Point
point_at points v = slice_index_or points v no_point

-- the points where a dart begins and where it ends
abbrev pub ends_at : List Point → Crossing → Point × Point
ends_at points c = (point_at points c.source, point_at points c.target)

-- the operation holds on the left and not on the right (this project)
abbrev pub is_turn : Op → List (Option Inside) → Crossing → Bool
is_turn op sets c =
    let l : Inside = held (set_at sets c.left) in
    let r : Inside = held (set_at sets c.right) in
    by_op op l.red l.blue && not (by_op op r.red r.blue)
