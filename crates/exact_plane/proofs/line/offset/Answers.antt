use Rattle.std.proofs.Common.{arith, unsigned_abs, ◌≤◌, ◌*◌, ◌*ℤ◌, subst, sym}
use Rattle.std.specs.Int.{w64}
use Rattle.integers.proofs.Machine.{Sized, machine, fits, comes_to}
use Rattle.integers.proofs.Sizes.{size_minus, size_product}
use Rattle.exact_plane.specs.declared.bounds.TheConstants.{MAX_COORDINATE, MAX_OFFSET}
use Rattle.exact_plane.proofs.line.offset.Goals as goal

pub overflow_sub-result : goal.overflow_sub-result
overflow_sub-result c =
    let x1 : Sized c.args.x1 = record { bound = MAX_COORDINATE; small = c.requires.first_x } in
    let y1 : Sized c.args.y1 = record { bound = MAX_COORDINATE; small = c.requires.first_y } in
    let x2 : Sized c.args.x2 = record { bound = MAX_COORDINATE; small = c.requires.second_x } in
    let y2 : Sized c.args.y2 = record { bound = MAX_COORDINATE; small = c.requires.second_y } in
    fits (search (machine, x1, y1, x2, y2) depth 20 fits 5000) tt

pub returns : goal.returns
returns c =
    let x1 : Sized c.args.x1 = record { bound = MAX_COORDINATE; small = c.requires.first_x } in
    let y1 : Sized c.args.y1 = record { bound = MAX_COORDINATE; small = c.requires.first_y } in
    let x2 : Sized c.args.x2 = record { bound = MAX_COORDINATE; small = c.requires.second_x } in
    let y2 : Sized c.args.y2 = record { bound = MAX_COORDINATE; small = c.requires.second_y } in
    let value = comes_to w64 (search (machine, x1, y1, x2, y2) depth 20 fits 5000) tt in
    let first = size_product c.args.x1 c.args.y2 MAX_COORDINATE MAX_COORDINATE c.requires.first_x c.requires.second_y in
    let second = size_product c.args.x2 c.args.y1 MAX_COORDINATE MAX_COORDINATE c.requires.second_x c.requires.first_y in
    let small = size_minus (c.args.x1 *ℤ c.args.y2) (c.args.x2 *ℤ c.args.y1) (MAX_COORDINATE * MAX_COORDINATE) (MAX_COORDINATE * MAX_COORDINATE) first second in
    record { value = value; small = subst (λ z. unsigned_abs z ≤ MAX_OFFSET) (sym value) (omega arith) }

pub overflow_mul-result : goal.overflow_mul-result
overflow_mul-result c =
    let x1 : Sized c.args.x1 = record { bound = MAX_COORDINATE; small = c.requires.first_x } in
    let y2 : Sized c.args.y2 = record { bound = MAX_COORDINATE; small = c.requires.second_y } in
    fits (search (machine, x1, y2) depth 20 fits 5000) tt

pub overflow_mul-result-2 : goal.overflow_mul-result-2
overflow_mul-result-2 c =
    let x2 : Sized c.args.x2 = record { bound = MAX_COORDINATE; small = c.requires.second_x } in
    let y1 : Sized c.args.y1 = record { bound = MAX_COORDINATE; small = c.requires.first_y } in
    fits (search (machine, x2, y1) depth 20 fits 5000) tt
