use Rattle.std.proofs.Common.{arith, unsigned_abs, ◌<◌, ◌*◌, ◌*ℤ◌, subst, sym}
use Rattle.std.specs.Int.{w64}
use Rattle.integers.proofs.Machine.{Sized, machine, fits, comes_to}
use Rattle.integers.proofs.Sizes.{size_minus, size_product}
use Rattle.exact_plane.specs.declared.bounds.TheConstants.{MAX_DIFFERENCE, WEIGHT_LIMIT}
use Rattle.exact_plane.proofs.meets.cross_weight.Goals as goal

pub overflow_sub-result : goal.overflow_sub-result
overflow_sub-result c =
    let a1 : Sized c.args.a1 = record { bound = MAX_DIFFERENCE; small = c.requires.a1 } in
    let b2 : Sized c.args.b2 = record { bound = MAX_DIFFERENCE; small = c.requires.b2 } in
    let a2 : Sized c.args.a2 = record { bound = MAX_DIFFERENCE; small = c.requires.a2 } in
    let b1 : Sized c.args.b1 = record { bound = MAX_DIFFERENCE; small = c.requires.b1 } in
    fits (search (machine, a1, b2, a2, b1) depth 20 fits 5000) tt

pub returns : goal.returns
returns c =
    let a1 : Sized c.args.a1 = record { bound = MAX_DIFFERENCE; small = c.requires.a1 } in
    let b2 : Sized c.args.b2 = record { bound = MAX_DIFFERENCE; small = c.requires.b2 } in
    let a2 : Sized c.args.a2 = record { bound = MAX_DIFFERENCE; small = c.requires.a2 } in
    let b1 : Sized c.args.b1 = record { bound = MAX_DIFFERENCE; small = c.requires.b1 } in
    let value = comes_to w64 (search (machine, a1, b2, a2, b1) depth 20 fits 5000) tt in
    let first = size_product c.args.a1 c.args.b2 MAX_DIFFERENCE MAX_DIFFERENCE c.requires.a1 c.requires.b2 in
    let second = size_product c.args.a2 c.args.b1 MAX_DIFFERENCE MAX_DIFFERENCE c.requires.a2 c.requires.b1 in
    let small = size_minus (c.args.a1 *ℤ c.args.b2) (c.args.a2 *ℤ c.args.b1) (MAX_DIFFERENCE * MAX_DIFFERENCE) (MAX_DIFFERENCE * MAX_DIFFERENCE) first second in
    record { value = value; small = subst (λ z. unsigned_abs z < WEIGHT_LIMIT) (sym value) (omega arith) }

pub overflow_mul-result : goal.overflow_mul-result
overflow_mul-result c =
    let a1 : Sized c.args.a1 = record { bound = MAX_DIFFERENCE; small = c.requires.a1 } in
    let b2 : Sized c.args.b2 = record { bound = MAX_DIFFERENCE; small = c.requires.b2 } in
    fits (search (machine, a1, b2) depth 20 fits 5000) tt

pub overflow_mul-result-2 : goal.overflow_mul-result-2
overflow_mul-result-2 c =
    let a2 : Sized c.args.a2 = record { bound = MAX_DIFFERENCE; small = c.requires.a2 } in
    let b1 : Sized c.args.b1 = record { bound = MAX_DIFFERENCE; small = c.requires.b1 } in
    fits (search (machine, a2, b1) depth 20 fits 5000) tt
