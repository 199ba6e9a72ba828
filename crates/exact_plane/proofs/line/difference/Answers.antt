use Rattle.std.proofs.Common.{arith, unsigned_abs, ◌≤◌, subst, sym}
use Rattle.std.specs.Int.{w64}
use Rattle.integers.proofs.Machine.{Sized, machine, comes_to}
use Rattle.integers.proofs.Sizes.{size_minus}
use Rattle.exact_plane.specs.declared.bounds.TheConstants.{MAX_COORDINATE, MAX_DIFFERENCE}
use Rattle.exact_plane.proofs.line.difference.Goals as goal

pub returns : goal.returns
returns c =
    let first : Sized c.args.first = record { bound = MAX_COORDINATE; small = c.requires.first } in
    let second : Sized c.args.second = record { bound = MAX_COORDINATE; small = c.requires.second } in
    let value = comes_to w64 (search (machine, first, second) depth 20 fits 5000) tt in
    let small = size_minus c.args.first c.args.second MAX_COORDINATE MAX_COORDINATE c.requires.first c.requires.second in
    record { value = value; small = subst (λ z. unsigned_abs z ≤ MAX_DIFFERENCE) (sym value) (omega arith) }
