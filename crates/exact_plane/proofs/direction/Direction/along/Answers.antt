use Rattle.std.proofs.Common.{rules, ◌≡◌, neg_ℤ, to_z, of_z}
use Rattle.std.specs.Int.{w64}
use Rattle.exact_plane.proofs.Directions.{direction_is}
use Rattle.exact_plane.proofs.direction.Direction.along.Goals as goal

pub invariant_of-result : goal.invariant_of-result
invariant_of-result c =
    let x : to_z w64 (of_z w64 c.line.inside.b) ≡ c.line.inside.b = search rules in
    let y : to_z w64 (of_z w64 c.negated.result) ≡ neg_ℤ c.line.inside.a = search rules in
    rw (x, y) (direction_is (record { a = c.line.inside.a; b = c.line.inside.b; c = c.line.inside.c }) c.line.invariant)
