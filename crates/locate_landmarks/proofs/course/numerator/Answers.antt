use Rattle.std.proofs.Common.{◌≡◌, ◌*ℤ◌, to_z, of_z, arith, sym, subst}
use Rattle.std.specs.Int.{w64, w128}
use Rattle.std.proofs.lemmas.Int.{to_z-of_z, fits_signed_from_abs}
use Rattle.integers.proofs.Machine.{Sized, machine, comes_to}
use Rattle.exact_plane.specs.declared.bounds.TheConstants.{MAX_COORDINATE, WEIGHT_LIMIT}
use Rattle.locate_landmarks.proofs.course.numerator.Goals as goal

pub returns : goal.returns
returns c =
    let n = c.args.number in
    let number : Sized n = record { bound = MAX_COORDINATE; small = c.requires.number } in
    let weight : Sized c.args.w = record { bound = WEIGHT_LIMIT; small = omega (arith, c.requires.weight) } in
    let is : to_z w64 (of_z w64 n) ≡ n = to_z-of_z w64 n (fits_signed_from_abs w64 n (omega (arith, c.requires.number))) in
    subst (λ z. to_z w128 (of_z w128 (to_z w128 (of_z w128 z) *ℤ to_z w128 (of_z w128 c.args.w))) ≡ n *ℤ c.args.w) (sym is)
    (comes_to w128 (search (machine, number, weight) depth 20 fits 5000) tt)
