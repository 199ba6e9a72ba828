use Rattle.std.proofs.Common.{rules, arith, unsigned_abs, ◌≡◌, ◌<◌, ◌*◌, ◌-ℤ◌, ◌*ℤ◌, to_z, of_z, ap₂, subst, sym, ◌∙◌}
use Rattle.std.specs.Int.{w128}
use Rattle.integers.proofs.Machine.{sized_product, machine, fits, comes_to}
use Rattle.integers.proofs.Sizes.{size_minus, size_product}
use Rattle.exact_plane.specs.declared.bounds.TheConstants.{MAX_DIFFERENCE, MAX_OFFSET, NUMERATOR_LIMIT}
use Rattle.exact_plane.proofs.meets.cross_abscissa.Goals as goal

pub overflow_sub-result : goal.overflow_sub-result
overflow_sub-result c =
    let first : to_z w128 (of_z w128 c.wide_product-first.result) ≡ c.args.b1 *ℤ c.args.c2 = search rules in
    let second : to_z w128 (of_z w128 c.wide_product-second.result) ≡ c.args.b2 *ℤ c.args.c1 = search rules in
    let one = sized_product (to_z w128 (of_z w128 c.wide_product-first.result)) c.args.b1 c.args.c2 MAX_DIFFERENCE MAX_OFFSET first c.requires.b1 c.requires.c2 in
    let other = sized_product (to_z w128 (of_z w128 c.wide_product-second.result)) c.args.b2 c.args.c1 MAX_DIFFERENCE MAX_OFFSET second c.requires.b2 c.requires.c1 in
    fits (search (machine, one, other) depth 20 fits 5000) tt

pub returns : goal.returns
returns c =
    let first : to_z w128 (of_z w128 c.wide_product-first.result) ≡ c.args.b1 *ℤ c.args.c2 = search rules in
    let second : to_z w128 (of_z w128 c.wide_product-second.result) ≡ c.args.b2 *ℤ c.args.c1 = search rules in
    let one = sized_product (to_z w128 (of_z w128 c.wide_product-first.result)) c.args.b1 c.args.c2 MAX_DIFFERENCE MAX_OFFSET first c.requires.b1 c.requires.c2 in
    let other = sized_product (to_z w128 (of_z w128 c.wide_product-second.result)) c.args.b2 c.args.c1 MAX_DIFFERENCE MAX_OFFSET second c.requires.b2 c.requires.c1 in
    let value = comes_to w128 (search (machine, one, other) depth 20 fits 5000) tt ∙ ap₂ ◌-ℤ◌ first second in
    let first_size = size_product c.args.b1 c.args.c2 MAX_DIFFERENCE MAX_OFFSET c.requires.b1 c.requires.c2 in
    let second_size = size_product c.args.b2 c.args.c1 MAX_DIFFERENCE MAX_OFFSET c.requires.b2 c.requires.c1 in
    let small = size_minus (c.args.b1 *ℤ c.args.c2) (c.args.b2 *ℤ c.args.c1) (MAX_DIFFERENCE * MAX_OFFSET) (MAX_DIFFERENCE * MAX_OFFSET) first_size second_size in
    record { value = value; small = subst (λ z. unsigned_abs z < NUMERATOR_LIMIT) (sym value) (omega arith) }
