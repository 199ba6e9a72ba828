use Rattle.std.proofs.Common.{arith, unsigned_abs, ◌<◌, ◌*◌, ◌^◌, ◌*ℤ◌, subst, sym}
use Rattle.std.specs.Int.{w128}
use Rattle.integers.proofs.Machine.{Sized, machine, fits, comes_to}
use Rattle.integers.proofs.Sizes.{size_minus, size_product}
use Rattle.exact_plane.specs.declared.bounds.TheConstants.{MAX_COORDINATE, WEIGHT_LIMIT}
use Rattle.region_rings.proofs.spokes.beyond.Goals as goal

pub overflow_sub-result : goal.overflow_sub-result
overflow_sub-result c =
    let to : Sized c.args.to = record { bound = MAX_COORDINATE * WEIGHT_LIMIT; small = c.requires.to } in
    let v : Sized c.args.v = record { bound = WEIGHT_LIMIT; small = (let h = c.requires.v in omega arith) } in
    let from : Sized c.args.from = record { bound = MAX_COORDINATE * WEIGHT_LIMIT; small = c.requires.from } in
    let w : Sized c.args.w = record { bound = WEIGHT_LIMIT; small = (let h = c.requires.w in omega arith) } in
    fits (search (machine, to, v, from, w) depth 20 fits 5000) tt

pub returns : goal.returns
returns c =
    let to : Sized c.args.to = record { bound = MAX_COORDINATE * WEIGHT_LIMIT; small = c.requires.to } in
    let v : Sized c.args.v = record { bound = WEIGHT_LIMIT; small = (let h = c.requires.v in omega arith) } in
    let from : Sized c.args.from = record { bound = MAX_COORDINATE * WEIGHT_LIMIT; small = c.requires.from } in
    let w : Sized c.args.w = record { bound = WEIGHT_LIMIT; small = (let h = c.requires.w in omega arith) } in
    let value = comes_to w128 (search (machine, to, v, from, w) depth 20 fits 5000) tt in
    let first = size_product c.args.to c.args.v (MAX_COORDINATE * WEIGHT_LIMIT) WEIGHT_LIMIT c.requires.to v.small in
    let second = size_product c.args.from c.args.w (MAX_COORDINATE * WEIGHT_LIMIT) WEIGHT_LIMIT c.requires.from w.small in
    let small = size_minus (c.args.to *ℤ c.args.v) (c.args.from *ℤ c.args.w) (MAX_COORDINATE * WEIGHT_LIMIT * WEIGHT_LIMIT) (MAX_COORDINATE * WEIGHT_LIMIT * WEIGHT_LIMIT) first second in
    record { value = value; small = subst (λ z. unsigned_abs z < 2 ^ 127) (sym value) (omega arith) }
